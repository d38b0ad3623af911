-- The laws of the search over the jobs: before the first job, at each, and at the end.
use Rattle.entries.specs.Firsts.{nowhere-none, nowhere-more, first_found, first-none}

pub ruleset firsts = (nowhere-none, nowhere-more, first_found, first-none)

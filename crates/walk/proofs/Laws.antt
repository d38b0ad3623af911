-- One law for the start of a walk, for a turn, and for each end.
use Rattle.walk.specs.Walks.{none_before, walk_more, walk-found, walk_end}

pub ruleset walk_laws = (none_before, walk_more, walk-found, walk_end)

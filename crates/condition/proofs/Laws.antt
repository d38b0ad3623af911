-- The laws that the proofs of the code cite.
use Rattle.condition.specs.Measures.{now-read, now-past}
use Rattle.condition.specs.Along.{all_more, all-stop, any-more}
use Rattle.condition.specs.Tags.{first-low, first-high, first_found, first_done, tag-slot}

pub ruleset laws = (now-read, now-past, all_more, all-stop, any-more, first-low, first-high, first_found, first_done, tag-slot)

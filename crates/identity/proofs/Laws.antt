-- The laws that the proofs of the code cite.
use Rattle.condition.specs.Along.{each_more, each-stop, each-apart}

pub ruleset laws = (each_more, each-stop, each-apart)

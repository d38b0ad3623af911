-- The laws that the proofs of the code cite.
use Rattle.condition.specs.Along.{all_more, all-stop, any-more}
use Rattle.given.specs.Givens.{given-alternative-start}

pub ruleset laws = (all_more, all-stop, any-more, given-alternative-start)

-- The laws that the proofs of the code cite, by function.
use Rattle.nodes.specs.Holes.{moved_none}
use Rattle.nodes.specs.Rises.{rises-test, rises-none, rises-pos}

pub ruleset above_laws = (rises-test, rises-none)

pub ruleset rise_laws = (moved_none, rises-pos)

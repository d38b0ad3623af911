-- The laws that the proofs of the code cite, by function.
use Rattle.heap.specs.Sinks.{next-none, next-go, next-stop}

pub ruleset next_laws = (next-none, next-go, next-stop)

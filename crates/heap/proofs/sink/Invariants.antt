-- Each move of the hole keeps the order around it; the hole goes down, among n places.
use Rattle.std.proofs.Common.{◌-◌}
use Rattle.nodes.specs.Structs.{rank_in}
use Rattle.nodes.specs.Holes.{Moved}
use Rattle.heap.specs.Sinks.{Down}
use Rattle.heap.proofs.sink.Given as goal

abbrev pub invariant-loop-c : goal.invariant-loop-c
invariant-loop-c l = Moved (rank_in l.ranks) (Down l.n (rank_in l.ranks l.x)) l.initial.heap l.heap l.n l.k l.i

abbrev pub decreases-loop-c : goal.decreases-loop-c
decreases-loop-c l = l.n - l.i

-- Each move of the hole keeps the order around it; the hole goes up.
use Rattle.nodes.specs.Structs.{rank_in}
use Rattle.nodes.specs.Holes.{Moved}
use Rattle.nodes.specs.Rises.{Up}
use Rattle.nodes.proofs.rise.rise.Given as goal

abbrev pub invariant-loop-p : goal.invariant-loop-p
invariant-loop-p g l = Moved (rank_in l.ranks) (Up g.A.Above.above l.n (rank_in l.ranks l.x)) l.initial.places l.places l.n l.k l.i

abbrev pub decreases-loop-p : goal.decreases-loop-p
decreases-loop-p g l = l.i

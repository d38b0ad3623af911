-- `evaluate` meets its contract: what is left of the walk, with those passed counted, is the whole walk.
use Rattle.std.proofs.Common.{◌≡◌}
use Rattle.walk.specs.Walks.{walked, walked_from}
use Rattle.walk.specs.Slots.{truth_of}
use Rattle.walk.proofs.evaluate.Given as goal

abbrev pub invariant-loop-i : goal.invariant-loop-i
invariant-loop-i l = walked_from (truth_of l.shared l.conditions) l.nodes l.i ≡ walked (truth_of l.shared l.conditions) l.nodes

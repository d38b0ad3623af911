-- `drain` meets its contract: what is left in the heap leads to the walk that is promised.
use Rattle.std.proofs.Common.{◌≡◌, ◌+◌, length}
use Rattle.nodes.specs.Structs.{rank_in}
use Rattle.nodes.specs.Sorted.{sorted}
use Rattle.walk.specs.Walks.{walked_on}
use Rattle.walk.specs.Slots.{truth_of}
use Rattle.drain.specs.Drained.{while, Left}
use Rattle.drain.specs.Slots.{holds_of}
use Rattle.drain.proofs.drain.Given as goal

abbrev pub invariant-loop-left : goal.invariant-loop-left
invariant-loop-left l =
    let tag = holds_of l.shared l.conditions in
    let test = truth_of l.shared l.conditions in
    (length l.heap ≡ length l.fn.heap) × (l.left + l.evaluated ≡ l.n + l.before)
    × Left (rank_in l.ranks) tag test l.heap l.left l.evaluated (walked_on test l.before
    (while tag (sorted (rank_in l.ranks) l.fn.heap l.n)))

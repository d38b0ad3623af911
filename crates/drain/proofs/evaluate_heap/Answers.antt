-- `evaluate_heap` meets its contract: the root is the first in rank, and what the copy has left leads to the rest of the walk.
use Rattle.std.proofs.Common.{rules, ◌∙◌, arith}
use Rattle.nodes.specs.Structs.{rank_in}
use Rattle.walk.specs.Slots.{truth_of}
use Rattle.drain.specs.Drained.{left-ends, left-fails, left-finds}
use Rattle.drain.specs.Slots.{holds_of}
use Rattle.drain.specs.Copies.{whole, after-root}
use Rattle.drain.proofs.evaluate_heap.Goals as goal

pub returns-then-n-eq0 : goal.returns-then-n-eq0
returns-then-n-eq0 c = left-ends _ _ _ _ _ _ (whole _ _ _ _ _ c.requires.ordered_1 c.requires.ordered_2) (omega (arith, c.if-n-eq0.true))

pub returns-then-not-node_tag_holds : goal.returns-then-not-node_tag_holds
returns-then-not-node_tag_holds c = left-fails _ _ _ _ _ _ (whole _ _ _ _ _ c.requires.ordered_1 c.requires.ordered_2) (search rules)
    c.node_tag_holds.ensures c.if-not-node_tag_holds.true

pub returns-then-node_true : goal.returns-then-node_true
returns-then-node_true c =
    left-finds _ _ _ _ _ _ (whole _ _ _ _ _ c.requires.ordered_1 c.requires.ordered_2) (search rules)
    c.node_tag_holds.ensures c.if-not-node_tag_holds.false c.node_true.ensures c.if-node_true.true

-- ---- after the root
pub drain-requires-clause-ordered_1 : goal.drain-requires-clause-ordered_1
drain-requires-clause-ordered_1 c =
    let a = c.args in
    let l = after-root (rank_in a.ranks.now) (holds_of a.shared.now a.conditions.now) (truth_of a.shared.now a.conditions.now) a.heap.now
    a.n c.requires.ordered_1 c.requires.ordered_2 _ _ _
    (search rules) c.node_tag_holds.ensures c.if-not-node_tag_holds.false c.node_true.ensures c.if-node_true.false c.copy_nodes.ensures
    c.remove.ensures in
    l.order

pub drain-requires-clause-ordered_2 : goal.drain-requires-clause-ordered_2
drain-requires-clause-ordered_2 c =
    let a = c.args in
    let l = after-root (rank_in a.ranks.now) (holds_of a.shared.now a.conditions.now) (truth_of a.shared.now a.conditions.now) a.heap.now
    a.n c.requires.ordered_1 c.requires.ordered_2 _ _ _
    (search rules) c.node_tag_holds.ensures c.if-not-node_tag_holds.false c.node_true.ensures c.if-node_true.false c.copy_nodes.ensures
    c.remove.ensures in
    l.apart

pub returns : goal.returns
returns c =
    let a = c.args in
    let l = after-root (rank_in a.ranks.now) (holds_of a.shared.now a.conditions.now) (truth_of a.shared.now a.conditions.now) a.heap.now
    a.n c.requires.ordered_1 c.requires.ordered_2 _ _ _
    (search rules) c.node_tag_holds.ensures c.if-not-node_tag_holds.false c.node_true.ensures c.if-node_true.false c.copy_nodes.ensures
    c.remove.ensures in
    c.drain.ensures ∙ l.leads

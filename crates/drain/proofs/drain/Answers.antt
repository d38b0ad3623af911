-- A false node is taken off: the heap that is left leads to the walk that is promised.
use Rattle.std.proofs.Common.{rules}
use Rattle.drain.specs.Drained.{left-passes}
use Rattle.drain.proofs.drain.Goals as goal

pub loop-left-preserved : goal.loop-left-preserved
loop-left-preserved c = (
  search rules,
  search rules,
  left-passes _ _ _ _ _ _ c.loop-left.invariant.2 (search rules) c.node_tag_holds.ensures c.if-not-node_tag_holds.false
      c.node_true.ensures _ c.if-node_true.false c.remove.ensures,
)

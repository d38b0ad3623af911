-- Each move of the hole keeps the order around it, and it stops where the node may stand.
use Rattle.heap.specs.Sinks.{sink-more, sink-end}
use Rattle.heap.proofs.sink.Goals as goal

pub loop-c-preserved : goal.loop-c-preserved
loop-c-preserved c = sink-more _ _ _ _ _ _ _ c.requires.fact_2 c.loop-c.invariant c.in-Some.ensures

pub returns : goal.returns
returns c = sink-end _ _ _ _ _ _ _ c.requires.fact_2 c.loop-c.invariant c.in_default.ensures

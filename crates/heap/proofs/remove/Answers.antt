-- The last node fills the hole, and it rises if it ranks before the one above, else it sinks.
use Rattle.std.proofs.Common.{arith}
use Rattle.heap.specs.Sinks.{removed-last, removed-rise, removed-sink}
use Rattle.heap.proofs.remove.Goals as goal

pub returns-then-n-k : goal.returns-then-n-k
returns-then-n-k c = removed-last _ _ _ _ c.if-n-k.true

pub returns-then-goes_up : goal.returns-then-goes_up
returns-then-goes_up c = removed-rise _ _ _ _ _ (omega arith) c.goes_up.ensures c.if-goes_up.true c.rise.ensures

pub returns : goal.returns
returns c = removed-sink _ _ _ _ _ (omega arith) c.goes_up.ensures c.if-goes_up.false c.sink.ensures

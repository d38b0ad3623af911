-- A place has one child or two, and of two the comparison tells the first.
use Rattle.heap.specs.Sinks.{only_child, right_child, left-child}
use Rattle.heap.proofs.least_child.Goals as goal

pub returns-then-n-d : goal.returns-then-n-d
returns-then-n-d c = only_child _ _ _ c.requires.fact_1 c.if-n-d.true

pub returns-then-before : goal.returns-then-before
returns-then-before c = right_child _ _ _ c.if-n-d.false c.before-2.ensures c.if-before.true

pub returns : goal.returns
returns c = left-child _ _ _ c.if-n-d.false c.before-2.ensures c.if-before.false

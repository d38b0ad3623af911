-- `sum_of` meets its contract: the loop holds the sum of the first `i` products, at most 100,000,000 * i from 0.
use Rattle.std.proofs.Common.{◌≡◌, ◌*◌}
use Rattle.rules.specs.Laws.Bounds.{Within}
use Rattle.integers.specs.Sums.{sum}
use Rattle.condition.specs.Measures.{term}
use Rattle.condition.proofs.measure.sum_of.Given as goal

abbrev pub invariant-loop-i : goal.invariant-loop-i
invariant-loop-i g l = (l.sum ≡ sum (term l.coefficients l.first l.values) l.i) × Within (100_000_000 * l.i) l.sum

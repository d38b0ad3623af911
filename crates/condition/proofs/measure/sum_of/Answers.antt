-- A turn adds a product of a coefficient and a value.
use Rattle.std.proofs.Common.{refl, arith, ◌+◌}
use Rattle.integers.specs.Sums.{sum}
use Rattle.condition.specs.Measures.{term}
use Rattle.condition.proofs.Products.{product-fits, added-fits, added-within, added-is}
use Rattle.condition.proofs.measure.sum_of.Goals as goal

pub loop-i-init : goal.loop-i-init
unfolding sum
loop-i-init g c = (refl, record { abs = omega arith })

pub overflow_mul-sum : goal.overflow_mul-sum
overflow_mul-sum g c = product-fits (c.requires.fact_3 _) (c.requires.fact_4 _)

pub overflow_add-sum-in-loop-i : goal.overflow_add-sum-in-loop-i
overflow_add-sum-in-loop-i g c = added-fits (c.requires.fact_3 _) (c.requires.fact_4 _) c.loop-i.invariant.1 (omega arith)

pub loop-i-preserved : goal.loop-i-preserved
loop-i-preserved g c =
    let x = c.requires.fact_3 (c.args.first + c.loop-i.i) in
    let y = c.requires.fact_4 c.loop-i.i in
    let l = c.loop-i.invariant in (
      added-is x y l.1 (omega arith) (term c.args.coefficients.now c.args.first c.args.values.now) c.loop-i.i refl l.0,
      added-within x y l.1 (omega arith) (omega arith),
    )

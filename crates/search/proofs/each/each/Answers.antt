-- A part after the other: what is left of them leads to the walk that is promised.
use Rattle.std.proofs.Common.{arith}
use Rattle.search.specs.Stretches.{lists-start, lists-end, lists-find, lists-pass, counted-most}
use Rattle.search.proofs.each.each.Goals as goal

pub loop-i-init : goal.loop-i-init
loop-i-init g c = (omega arith, λ test parts t. lists-start test parts c.args.n)

pub counted-walk-requires-clause-fact_1 : goal.counted-walk-requires-clause-fact_1
counted-walk-requires-clause-fact_1 g c = omega (arith, c.loop-i.invariant.0, c.loop-i-test.true, c.requires.n_in_bounds)

pub returns-in_default : goal.returns-in_default
returns-in_default g c =
    let l = c.loop-i in
    λ test parts t. lists-find test parts c.args.n l.i l.evaluated (l.invariant.1 test parts t) c.loop-i-test.true
    (t _ _ c.loop-i-test.true c.part.ensures) c.counted-walk.ensures _ _ c.in_default.is

pub loop-i-preserved : goal.loop-i-preserved
loop-i-preserved g c =
    let l = c.loop-i in (
      omega (
        arith,
        l.invariant.0,
        counted-most _ _ 128 _ c.counted-walk.ensures c.in-Nobody.is
            (c.requires.few _ _ c.loop-i-test.true c.part.ensures),
      ),
      λ test parts t. lists-pass test parts c.args.n l.i l.evaluated (l.invariant.1 test parts t) c.loop-i-test.true
          (t _ _ c.loop-i-test.true c.part.ensures) c.counted-walk.ensures _ c.in-Nobody.is,
    )

pub returns : goal.returns
returns g c = λ test parts t. lists-end test parts c.args.n c.loop-i.i c.loop-i.evaluated (c.loop-i.invariant.1 test parts t)
    c.loop-i-test.false

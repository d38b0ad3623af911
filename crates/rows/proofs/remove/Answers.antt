-- The hole goes down to the last of the n + 1 places, one store at a time.
use Rattle.std.proofs.Common.{arith, ◌∙◌, ◌≤◌, length-set}
use Rattle.rows.specs.Slides.{slid, slide-more, slide-end}
use Rattle.rows.proofs.remove.Goals as goal

pub loop-i-preserved : goal.loop-i-preserved
loop-i-preserved c = record {
  most = omega arith;
  long = length-set _ _ _ ∙ c.loop-i.invariant.long;
  last = slid _ _ _ _ _ c.loop-i.invariant.last c.loop-i-test.true;
  moved = λ rank. slide-more rank _ _ _ _ _ c.requires.fact_2 (c.loop-i.invariant.moved rank) c.loop-i-test.true;
}

pub returns : goal.returns
returns c rank =
    let past : c.args.n ≤ c.loop-i.i = omega arith in
    slide-end rank _ _ _ _ _ c.requires.fact_2 (c.loop-i.invariant.moved rank) past c.loop-i.invariant.last

-- A turn stores one group, and the rest goes on at the next place.
use Rattle.std.proofs.Common.{rules, refl}
use Rattle.writer.specs.Numbers.{going_more}
use Rattle.writer.proofs.number.put_number.Goals as goal

pub loop-rest-preserved : goal.loop-rest-preserved
loop-rest-preserved c =
    let l = c.loop-rest in
    let m = going_more c.args.out.now l.out c.args.at c.args.n l.rest l.i l.invariant.1 l.invariant.2 c.loop-rest-test.true _ refl _ refl _ refl in
    (search rules, m.0, m.1)

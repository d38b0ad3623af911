-- One more is put, or refused.
use Rattle.std.proofs.Common.{pos, get_or, rules, arith}
use Rattle.rules.specs.Writer.{write_signed}
use Rattle.writer.specs.Puts.{puts-signed, signed-short}
use Rattle.writer.specs.Rows.{list-near, list_more, list-stop}
use Rattle.writer.proofs.numbers.put_numbers.Goals as goal

pub put_signed-requires-clause-fact_1 : goal.put_signed-requires-clause-fact_1
put_signed-requires-clause-fact_1 c =
    let l = c.loop-number in
    omega (
      arith,
      c.requires.fact_1,
      l.invariant.long,
      list-near (write_signed c.args.most) 5 (signed-short c.args.most) c.args.numbers.now l.number-index (omega arith) l.invariant,
    )

pub returns-in_err-next : goal.returns-in_err-next
returns-in_err-next c =
    let l = c.loop-number in
    list-stop (write_signed c.args.most) c.args.numbers.now l.number-index (omega arith) l.invariant (pos 0)
    (puts-signed c.args.most (get_or c.args.numbers.now l.number-index (pos 0))
    (search rules) c.in_err-next.ensures) c.from_residual.ensures.1

pub loop-number-preserved : goal.loop-number-preserved
loop-number-preserved c =
    let l = c.loop-number in
    list_more (write_signed c.args.most) c.args.numbers.now l.number-index (omega arith) l.invariant (pos 0)
    (puts-signed c.args.most (get_or c.args.numbers.now l.number-index (pos 0)) (search rules) c.in_ok-next.ensures)

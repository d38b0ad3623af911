-- The record is made whole, and it has room in the bytes it is made in.
use Rattle.std.proofs.Common.{rules, arith}
use Rattle.rules.specs.Writer.{write_opening}
use Rattle.condition.specs.From.{from}
use Rattle.writer.specs.Puts.{Puts, near}
use Rattle.writer.specs.Openings.{row_given, values_given}
use Rattle.writer.specs.Short.{opening-short}
use Rattle.writer.specs.Whole.{recorded}
use Rattle.writer.proofs.records.write_opening.Goals as goal

pub write_record-requires-clause-short : goal.write_record-requires-clause-short
write_record-requires-clause-short c = λ zeros made place gave n e.
    let a = c.args in
    let puts : Puts (write_opening (from (row_given a.coefficients.now) a.measures 0) (values_given a.values.now)) zeros made 0 place =
    search rules in
    omega (arith, near puts 704 (opening-short a.coefficients.now a.values.now a.measures) e)

pub returns : goal.returns
returns c = let a = c.args in recorded c.write_record.ensures (search rules) (opening-short a.coefficients.now a.values.now a.measures)

-- The record is made whole, and it has room in the bytes it is made in.
use Rattle.std.proofs.Common.{rules, arith}
use Rattle.rules.specs.Step.{wait}
use Rattle.rules.specs.Writer.{write_event}
use Rattle.writer.specs.Puts.{Puts, near}
use Rattle.writer.specs.Givens.{locals_of, condition_of}
use Rattle.writer.specs.Short.{wait-short}
use Rattle.writer.specs.Whole.{recorded}
use Rattle.writer.proofs.records.write_wait.Goals as goal

pub write_record-requires-clause-short : goal.write_record-requires-clause-short
write_record-requires-clause-short c = λ zeros made place gave n e.
    let a = c.args in
    let puts : Puts (write_event a.measures (wait a.job (locals_of a.given.now) (condition_of a.given.now a.count))) zeros made 0 place =
    search rules in
    omega (arith, near puts 704 (wait-short a.measures a.job a.given.now a.count) e)

pub returns : goal.returns
returns c = let a = c.args in recorded c.write_record.ensures (search rules) (wait-short a.measures a.job a.given.now a.count)

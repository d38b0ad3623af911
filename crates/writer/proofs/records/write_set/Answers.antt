-- The record is made whole, and it has room in the bytes it is made in.
use Rattle.std.proofs.Common.{rules}
use Rattle.writer.specs.Short.{set-short}
use Rattle.writer.specs.Whole.{recorded}
use Rattle.writer.proofs.records.write_set.Goals as goal

pub returns : goal.returns
returns c = let a = c.args in recorded c.write_record.ensures (search rules) (set-short a.measures a.job a.variable a.value)

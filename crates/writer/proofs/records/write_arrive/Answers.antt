-- The record is made whole, and it has room in the bytes it is made in.
use Rattle.std.proofs.Common.{refl, rules}
use Rattle.rules.specs.Step.{arrive}
use Rattle.writer.specs.Events.{bare-put}
use Rattle.writer.specs.Short.{arrive-short}
use Rattle.writer.specs.Whole.{recorded}
use Rattle.writer.proofs.records.write_arrive.Goals as goal

pub returns : goal.returns
returns c = recorded c.write_record.ensures (bare-put c.args.measures (arrive c.args.job) refl (search rules))
    (arrive-short c.args.measures c.args.job)

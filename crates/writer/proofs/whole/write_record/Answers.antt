-- What `make` gave is what was finished.
use Rattle.std.proofs.Common.{refl}
use Rattle.writer.proofs.whole.write_record.Goals as goal

pub finish-requires : goal.finish-requires
finish-requires g c = c.requires.short _ _ _ (record { shown = _; shows = refl; left = _; met = c.make-made.ensures; leaves = refl })

pub returns : goal.returns
returns g c = record { zeros = _; made = _; place = _; long = refl; gave = record { shown = _; shows = refl; left = _; met = c.make-made.ensures; leaves = refl }; copied = c.finish.ensures }

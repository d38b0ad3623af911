-- It calls itself one place on, so the places to the sixth are the measure.
use Rattle.std.proofs.Common.{◌-◌}
use Rattle.fields.proofs.number.+read_groups.Given as goal

abbrev pub decreases-read_groups : goal.decreases-read_groups
decreases-read_groups l = 6 - l.place

-- What is looked for in the whole array is somebody of the 32 jobs.
use Rattle.std.proofs.Common.{◌∙◌}
use Rattle.room.specs.Occupied.{somebody-listed}
use Rattle.room.proofs.occupied.occupied.Goals as goal

pub returns : goal.returns
returns c = c.contains.ensures.value ∙ somebody-listed c.args.standing.now c.told-standing

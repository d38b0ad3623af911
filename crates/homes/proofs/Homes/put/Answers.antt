-- The home's places are lent to `set_in`, and come back where they were.
use Rattle.std.proofs.Common.{arith}
use Rattle.homes.specs.Moves.{put-part}
use Rattle.homes.proofs.Homes.put.Goals as goal

pub returns : goal.returns
returns c = put-part _ _ _ _ _ _ _ (omega arith) (omega arith) c.requires.fact_1 (omega arith) c.set_in.ensures

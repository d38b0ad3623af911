-- The first place past the nodes is a hole, and what rises into it is one node more.
use Rattle.nodes.specs.Rises.{pushed}
use Rattle.rows.specs.Places.{previous-lt}
use Rattle.rows.proofs.insert.Goals as goal

pub returns : goal.returns
returns c = pushed _ previous-lt _ _ _ _ _ c.rise.ensures

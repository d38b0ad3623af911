-- The first place past the nodes is a hole, and what rises into it is one node more.
use Rattle.nodes.specs.Rises.{pushed}
use Rattle.heap.specs.Places.{above-lt}
use Rattle.heap.proofs.push.Goals as goal

pub returns : goal.returns
returns c = pushed _ above-lt _ _ _ _ _ c.rise.ensures

-- One law for the start and for each end of a walk over what is left in a heap: a true node, a tag that does not hold, and no node more.
use Rattle.drain.specs.Drained.{left-start, left-ends, left-fails, left-finds}

pub ruleset drain_laws = (left-start, left-ends, left-fails, left-finds)

-- None of the jobs passed is such a lead.
use Rattle.condition.specs.Slots.{condition_of}
use Rattle.entries.specs.Alike.{lead_like}
use Rattle.entries.specs.Firsts.{Nowhere}
use Rattle.entries.proofs.lead_like.Given as goal

abbrev pub invariant-loop-k : goal.invariant-loop-k
invariant-loop-k l = Nowhere (lead_like (condition_of l.conditions) l.entry l.job) l.k

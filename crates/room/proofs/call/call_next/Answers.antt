-- Who is found is in the index, so `part` may take him out of it.
use Rattle.std.proofs.Common.{sym, ◌∙◌}
use Rattle.room.specs.Tickets.{calls-next}
use Rattle.room.specs.Calls.{indexed, calls-nobody, called-small, calls-one}
use Rattle.room.proofs.call.call_next.Goals as goal

pub returns-in_default-clause-calls : goal.returns-in_default-clause-calls
returns-in_default-clause-calls c next =
    calls-next _ next _ _ _ _ _ _
    (calls-nobody _ c.requires _ _ c.in_default.is (c.search-answer.ensures (indexed _ c.requires)))

pub part-requires-clause-job_bound_1 : goal.part-requires-clause-job_bound_1
part-requires-clause-job_bound_1 c = called-small _ c.requires _ _ _ (sym c.in-Calls.is ∙ c.search-answer.ensures (indexed _ c.requires))

pub bounds-standing-job : goal.bounds-standing-job
bounds-standing-job c = called-small _ c.requires _ _ _ (sym c.in-Calls.is ∙ c.search-answer.ensures (indexed _ c.requires))

pub returns-clause-calls : goal.returns-clause-calls
returns-clause-calls c next =
    calls-next _ next _ _ _ _ _ _
    (calls-one _ c.requires _ _ _ (sym c.in-Calls.is ∙ c.search-answer.ensures (indexed _ c.requires)) _ _ _ c.part.ensures.parted)

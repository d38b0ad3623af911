-- `leave` meets its contract: the search is the rules', and the job that was inside was not found by it.
use Rattle.leave.specs.Leaves.{leaves, leaves-not}
use Rattle.leave.proofs.leave.Goals as goal

pub returns-then-room-job-ne-INSIDE-clause-steps : goal.returns-then-room-job-ne-INSIDE-clause-steps
returns-then-room-job-ne-INSIDE-clause-steps c next =
    leaves-not _ c.requires.sound c.args.job c.requires.job_bound next c.if-room-job-ne-INSIDE.true

pub returns-clause-steps : goal.returns-clause-steps
returns-clause-steps c next =
    rw c.call_next-answer.ensures.ranks
    (leaves _ c.requires.sound c.args.job c.requires.job_bound next _ _ _ _ _
    (c.call_next-answer.ensures.calls _) c.if-room-job-ne-INSIDE.false c.searched.ensures)

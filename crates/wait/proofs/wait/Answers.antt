-- `wait` meets its contract: one law for each case, in the order of the tests.
use Rattle.wait.specs.Waits.{waits-not, waits-on, waits-no-ticket}
use Rattle.wait.proofs.wait.Goals as goal

pub returns-then-room-job-ne-INSIDE-clause-waited : goal.returns-then-room-job-ne-INSIDE-clause-waited
returns-then-room-job-ne-INSIDE-clause-waited c =
    waits-not _ c.requires.sound c.args.job c.requires.job_bound_1 _ c.if-room-job-ne-INSIDE.true

pub returns-then-given_true-clause-waited : goal.returns-then-given_true-clause-waited
returns-then-given_true-clause-waited c =
    rw c.unsearched.ensures
    (waits-on _ c.requires.sound c.args.job c.requires.job_bound_1 _ c.if-room-job-ne-INSIDE.false c.given_true.ensures
    c.if-given_true.true)

pub returns-then-room-ge-TICKETS-clause-waited : goal.returns-then-room-ge-TICKETS-clause-waited
returns-then-room-ge-TICKETS-clause-waited c =
    waits-no-ticket _ c.requires.sound c.args.job c.requires.job_bound_1 _ c.if-room-job-ne-INSIDE.false c.given_true.ensures
    c.if-given_true.false c.if-room-ge-TICKETS.true

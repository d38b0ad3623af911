-- The four fields, one after the other.
use Rattle.room.specs.Reports.{outcome_of, job_in}
use Rattle.listing.specs.Lines.{writes-accepted}
use Rattle.listing.proofs.line.put_accepted.Goals as goal

pub returns : goal.returns
returns c =
    let a = c.args.accepted in
    writes-accepted c.args.number (outcome_of a.outcome) (job_in a.called) a.evaluated
    c.put_decimal-after_number.ensures c.put_outcome-after_outcome.ensures c.put_job-after_job.ensures c.put_line.ensures

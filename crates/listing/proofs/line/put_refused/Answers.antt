-- The number, and then the words with the refusal.
use Rattle.fields.specs.Refusals.{refusal_number}
use Rattle.listing.specs.Lines.{writes-refused}
use Rattle.listing.proofs.line.put_refused.Goals as goal

pub returns : goal.returns
returns c = writes-refused c.args.number (refusal_number c.args.refusal) c.put_decimal-after_number.ensures c.put_refusal.ensures

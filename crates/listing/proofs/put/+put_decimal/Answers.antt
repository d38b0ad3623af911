-- The digits of a tenth, and then the last one.
use Rattle.listing.specs.Decimal.{writes_more}
use Rattle.listing.proofs.put.+put_decimal.Goals as goal

pub returns : goal.returns
returns t c = writes_more c.args.n c.if-n-lt10.false c.put_decimal-next.ensures c.put-2.ensures

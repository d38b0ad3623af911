-- No listing is longer than the buffer.
use Rattle.std.proofs.Common.{arith}
use Rattle.listing.specs.Bound.{listing-whole}
use Rattle.listing.proofs.whole_listing.Goals as goal

pub returns-clause-out_after : goal.returns-clause-out_after
returns-clause-out_after c = (listing-whole c.args.out.now c.args.input.now (omega arith) c.listing.ensures).0

-- The one line of an input too long, or the lines of its stream.
use Rattle.std.proofs.Common.{arith}
use Rattle.listing.specs.Streams.{too_long, not-too-long}
use Rattle.listing.proofs.listing.Goals as goal

pub returns-then-input-gt65536 : goal.returns-then-input-gt65536
returns-then-input-gt65536 c = too_long c.args.out.now c.args.input.now (omega arith) c.put_refusal.ensures

pub returns : goal.returns
returns c = not-too-long c.args.out.now c.args.input.now (omega arith) c.write_stream.ensures

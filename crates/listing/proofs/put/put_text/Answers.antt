-- Nothing is written at first, and each turn writes one byte more.
use Rattle.listing.specs.Output.{text-more}
use Rattle.listing.proofs.put.put_text.Goals as goal

pub loop-byte-preserved : goal.loop-byte-preserved
loop-byte-preserved c = text-more c.args.text.now c.loop-byte.byte-index c.loop-byte.invariant c.loop-byte-test.true c.put-next.ensures

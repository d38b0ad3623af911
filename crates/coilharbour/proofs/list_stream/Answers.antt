-- The bytes that were read are listed as all that the reader had, and that listing is written.
use Rattle.std.proofs.Common.{arith, take}
use Rattle.rules.specs.Listing.{listing}
use Rattle.coilharbour.proofs.Whole.{listed-whole, written-whole, text-in-front}
use Rattle.coilharbour.proofs.list_stream.Goals as goal

pub returns : goal.returns
returns g c =
    let read = c.in_ok-got.ensures in
    let bytes = take c.in_ok-got.got c.read_full.new.buffer in
    let whole = listed-whole _ _ bytes read.bytes (λ short. read.end (omega (arith, read.count.1, short, c.read_full.auto.buffer))) in
    let out = c.whole_listing-length.new.out in
    let listed = c.whole_listing-length.ensures.out_after in
    let text = text-in-front out (listing bytes) _ _ listed.0 listed.1 in
    written-whole c.write_all.result _ _ _ (take c.whole_listing-length.result out) bytes text whole c.write_all.ensures.bytes

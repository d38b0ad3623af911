-- So much of the text is written as bytes were taken.
use Rattle.std.proofs.Common.{take}
use Rattle.listing.specs.Output.{output, Writes}
use Rattle.listing.proofs.put.put_text.Given as goal

abbrev pub invariant-loop-byte : goal.invariant-loop-byte
invariant-loop-byte l = Writes (output l.fn.out l.fn.at) (output l.out l.next) (take l.byte-index l.text)

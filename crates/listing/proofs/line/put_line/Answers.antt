-- The words, the number and a line feed, one after the other.
use Rattle.listing.specs.Lines.{writes_line}
use Rattle.listing.proofs.line.put_line.Goals as goal

pub returns : goal.returns
returns c = writes_line c.args.n c.put_text-after_words.ensures c.put_decimal-after_number.ensures c.put.ensures

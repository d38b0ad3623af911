-- The numbers passed are put.
use Rattle.std.proofs.Common.{take, Ok}
use Rattle.rules.specs.Writer.{all-written, write_signed}
use Rattle.writer.specs.Puts.{Puts}
use Rattle.writer.proofs.numbers.put_numbers.Given as goal

abbrev pub invariant-loop-number : goal.invariant-loop-number
invariant-loop-number l = Puts (all-written (write_signed l.most) (take l.number-index l.numbers)) l.initial.out l.out l.at (Ok l.next)

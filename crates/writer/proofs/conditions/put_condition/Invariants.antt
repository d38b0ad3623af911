-- The count is put, and the first i alternatives.
use Rattle.std.proofs.Common.{Ok}
use Rattle.rules.specs.Writer.{◌then◌, all-written, write_field, write_counted, write_atom}
use Rattle.condition.specs.From.{from}
use Rattle.writer.specs.Puts.{Puts}
use Rattle.writer.specs.Givens.{alternative_of}
use Rattle.writer.proofs.conditions.put_condition.Given as goal

abbrev pub invariant-loop-i : goal.invariant-loop-i
invariant-loop-i l = Puts (write_field 4 1 4 l.count then all-written (write_counted (write_atom l.measures))
    (from (alternative_of l.given) l.i 0)) l.fn.out l.out l.at (Ok l.next)

-- The count is put, and the first k atoms.
use Rattle.std.proofs.Common.{◌*◌, Ok, get_or}
use Rattle.rules.specs.Writer.{◌then◌, all-written, write_field, write_atom}
use Rattle.condition.specs.From.{from}
use Rattle.writer.specs.Puts.{Puts}
use Rattle.writer.specs.Givens.{atom_of}
use Rattle.writer.proofs.conditions.put_alternative.Given as goal

abbrev pub invariant-loop-k : goal.invariant-loop-k
invariant-loop-k l = Puts (write_field 4 1 4 (get_or l.given.counts l.i 0) then all-written (write_atom l.measures)
    (from (atom_of l.given) l.k (l.i * 4))) l.fn.out l.out l.at (Ok l.next)

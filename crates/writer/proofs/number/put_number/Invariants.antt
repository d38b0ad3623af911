-- `put_number` meets its contract: each turn stores one group, and the groups that are left go on at the next place.
use Rattle.std.proofs.Common.{◌≡◌, ℕ, length}
use Rattle.writer.specs.Numbers.{Going}
use Rattle.writer.proofs.number.put_number.Given as goal

abbrev pub invariant-loop-rest : goal.invariant-loop-rest
invariant-loop-rest l = (length l.out ≡ length l.initial.out) × (k : ℕ) × Going l.initial.out l.out l.at l.n l.rest l.i k

abbrev pub decreases-loop-rest : goal.decreases-loop-rest
decreases-loop-rest l = l.rest

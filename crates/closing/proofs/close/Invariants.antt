-- `close` meets its contract: the keys of the atoms passed stand in their slots.
use Rattle.condition.specs.StoredFrom.{StoredUpTo}
use Rattle.condition.specs.Closing.{key_at}
use Rattle.closing.proofs.close.Given as goal

abbrev pub invariant-loop-i : goal.invariant-loop-i
invariant-loop-i l = StoredUpTo (key_at l.given.coefficients l.given.locals l.given.constant) l.slot l.initial.key l.key l.i

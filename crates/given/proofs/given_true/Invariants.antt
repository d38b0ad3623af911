-- `given_true` meets its contract: the alternatives passed were false, so the whole is what is left of it; within one, the atoms passed
-- were true.
use Rattle.std.proofs.Common.{◌≡◌, false}
use Rattle.rules.specs.Condition.{atom_true, alternative_true, condition_true, closure}
use Rattle.condition.specs.Along.{all_left, any_left}
use Rattle.condition.specs.Closes.{given_condition}
use Rattle.condition.specs.Slots.{now_of}
use Rattle.closing.specs.Slots.{given_of}
use Rattle.given.specs.Givens.{closed_at, closed_alternative}
use Rattle.given.proofs.given_true.Given as goal

abbrev pub invariant-alternative : goal.invariant-alternative
invariant-alternative l =
    let g = given_of l.count l.given in
    all_left (atom_true (now_of l.shared)) (closed_at g) l.atoms l.j l.first_slot
    ≡ alternative_true (now_of l.shared) (closed_alternative g l.i)

abbrev pub invariant-condition : goal.invariant-condition
invariant-condition l =
    let g = given_of l.count l.given in
    (l.found ≡ false)
    × (any_left (alternative_true (now_of l.shared)) (closed_alternative g) l.alternatives l.i 0
    ≡ condition_true (now_of l.shared) (closure l.given.locals (given_condition g)))

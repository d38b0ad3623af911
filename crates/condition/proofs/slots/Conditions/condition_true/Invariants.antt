-- `condition_true` meets its contract: the alternatives passed were false, so the whole is what is left of it; within one, the atoms passed
-- were true.
use Rattle.std.proofs.Common.{◌≡◌, false}
use Rattle.rules.specs.Condition.{atom_true, alternative_true, condition_true}
use Rattle.condition.specs.Along.{all_left, any_left}
use Rattle.condition.specs.Slots.{now_of, atom_of, alternative_of, condition_of}
use Rattle.condition.proofs.slots.Conditions.condition_true.Given as goal

abbrev pub invariant-alternative : goal.invariant-alternative
invariant-alternative l =
    all_left (atom_true (now_of l.shared)) (atom_of l.self) l.atom_count l.j l.first_slot
    ≡ alternative_true (now_of l.shared) (alternative_of l.self l.node)

abbrev pub invariant-condition : goal.invariant-condition
invariant-condition l =
    (l.found ≡ false)
    × (any_left (alternative_true (now_of l.shared)) (alternative_of l.self) l.count l.i l.first
    ≡ condition_true (now_of l.shared) (condition_of l.self l.job))

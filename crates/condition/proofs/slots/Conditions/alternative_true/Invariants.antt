-- `alternative_true` meets its contract: the atoms passed were true, so the whole is what is left of it.
use Rattle.std.proofs.Common.{◌≡◌}
use Rattle.rules.specs.Condition.{atom_true, alternative_true}
use Rattle.condition.specs.Along.{all_left}
use Rattle.condition.specs.Slots.{now_of, atom_of, alternative_of}
use Rattle.condition.proofs.slots.Conditions.alternative_true.Given as goal

abbrev pub invariant-loop-i : goal.invariant-loop-i
invariant-loop-i l =
    all_left (atom_true (now_of l.shared)) (atom_of l.self) l.count l.i l.first
    ≡ alternative_true (now_of l.shared) (alternative_of l.self l.node)

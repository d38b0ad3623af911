-- `same_condition` meets its contract: the counts are the same, and so were the alternatives passed.
use Rattle.std.proofs.Common.{◌≡◌}
use Rattle.rules.specs.Base.{each}
use Rattle.rules.specs.Condition.{same_atom, identical}
use Rattle.condition.specs.Along.{each_left}
use Rattle.condition.specs.Slots.{alternative_of, condition_of}
use Rattle.identity.proofs.same_condition.Given as goal

abbrev pub invariant-loop-i : goal.invariant-loop-i
invariant-loop-i l =
    let c = l.conditions in
    each_left (each same_atom) (alternative_of c) (alternative_of c) l.count l.i l.first l.second
    ≡ identical (condition_of c l.one) (condition_of c l.other)

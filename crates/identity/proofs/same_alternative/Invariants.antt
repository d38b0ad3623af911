-- `same_alternative` meets its contract: the counts are the same, and so were the atoms passed.
use Rattle.std.proofs.Common.{◌≡◌}
use Rattle.rules.specs.Base.{each}
use Rattle.rules.specs.Condition.{same_atom}
use Rattle.condition.specs.Along.{each_left}
use Rattle.condition.specs.Slots.{atom_of, alternative_of}
use Rattle.identity.proofs.same_alternative.Given as goal

abbrev pub invariant-loop-i : goal.invariant-loop-i
invariant-loop-i l =
    let c = l.conditions in
    each_left same_atom (atom_of c) (atom_of c) l.count l.i l.first l.second
    ≡ each same_atom (alternative_of c l.one) (alternative_of c l.other)

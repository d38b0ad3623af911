-- What the two structs of src/slots.rt hold, by the definitions over their arrays.
use Rattle.std.specs.Prelude.{List, ℕ, ℤ}
use Rattle.rules.specs.Condition.{Atom, Condition}
use Rattle.condition.specs.Measures.{Ranges, now_at}
use Rattle.condition.specs.Closed.{atom_at, alternative_at, condition_at}
use Rattle.condition.specs.Closing.{ClosedSlots, closed_slots}
use Rattle.condition.specs.declared.slots.Shared.{Shared}
use Rattle.condition.specs.declared.slots.Conditions.{Conditions}

abbrev pub now_of : Shared → List ℤ
now_of s = now_at s.coefficients s.values

-- every number is one that a room takes
abbrev pub Fits : Shared → Conditions → Type 0
Fits s c = Ranges s.coefficients s.values c.key

abbrev pub closed_of : Conditions → ClosedSlots
closed_of c = closed_slots c.alternatives c.atoms c.measure c.operator c.key

abbrev pub atom_of : Conditions → ℕ → Atom
atom_of c slot = atom_at c.measure c.operator c.key slot

abbrev pub alternative_of : Conditions → ℕ → List Atom
alternative_of c node = alternative_at c.atoms c.measure c.operator c.key node

abbrev pub condition_of : Conditions → ℕ → Condition
condition_of c job = condition_at c.alternatives c.atoms c.measure c.operator c.key job

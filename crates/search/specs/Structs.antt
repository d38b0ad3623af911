-- What a search asks of the structs that it reads, by the definitions over their arrays.
use Rattle.std.specs.Prelude.{ℕ}
use Rattle.condition.specs.Slots.{Fits}
use Rattle.condition.specs.declared.slots.Shared.{Shared}
use Rattle.condition.specs.declared.slots.Conditions.{Conditions}
use Rattle.index.specs.declared.Index.{Index}
use Rattle.search.specs.Live.{Searchable}
use Rattle.search.specs.Indexed.{Indexed, searchable}

abbrev pub IsIndexed : ℕ → Conditions → Index → Type 0
IsIndexed measures c i = Indexed measures c.atoms c.measure c.operator c.key i.ranks.high i.ranks.low i.homes.places i.homes.lengths

abbrev pub searchable_of : (measures : ℕ) (c : Conditions) (i : Index) (s : Shared) → Fits s c → IsIndexed measures c i → Searchable
searchable_of measures c i s = searchable measures c.atoms c.measure c.operator c.key i.ranks.high i.ranks.low i.homes.places
    i.homes.lengths s.coefficients s.values

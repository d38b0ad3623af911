-- A room in its struct: its arrays by name, and the room of 0 everywhere.
use Rattle.std.specs.Prelude.{◌≡◌, List, ℕ, ℤ, pos, replicate}
use Rattle.condition.specs.Closing.{ClosedSlots, closed_slots}
use Rattle.condition.specs.Slots.{closed_of}
use Rattle.condition.specs.declared.slots.Shared.{Shared}
use Rattle.condition.specs.declared.slots.Conditions.{Conditions}
use Rattle.index.specs.declared.Index.{Index}
use Rattle.room.specs.Arrays.{Arrays, arrays}
use Rattle.room.specs.declared.room.Room.{Room}

-- the arrays of a room whose parts are lent each for itself
abbrev pub arrays_from : Shared → List ℕ → List ℕ → Conditions → Index → ℕ → ℕ → Arrays
arrays_from shared standing ticket conditions index measures next =
    arrays shared.coefficients shared.values standing ticket (closed_of conditions)
    index.entry index.ranks.high index.ranks.low index.homes.places index.homes.lengths measures next

abbrev pub arrays_of : Room → Arrays
arrays_of r = arrays_from r.shared r.standing r.ticket r.conditions r.index r.measures r.next_ticket

-- two rooms with the same arrays are the same room
pub one-room : (r s : Room) → arrays_of r ≡ arrays_of s → r ≡ s
one-room r s e = λ i. record {
  shared = record { coefficients = (e i).coefficients; values = (e i).values };
  standing = (e i).standing;
  ticket = (e i).ticket;
  conditions = record {
    alternatives = (e i).slots.alternatives;
    atoms = (e i).slots.atoms;
    measure = (e i).slots.measure;
    operator = (e i).slots.operator;
    key = (e i).slots.key;
  };
  index = record {
    entry = (e i).entry;
    ranks = record { high = (e i).high; low = (e i).low };
    homes = record { places = (e i).places; lengths = (e i).lengths };
  };
  measures = (e i).measures;
  next_ticket = (e i).next;
}

-- all but the standings and the index's entries and homes is as it was
pub record Fixed (r s : Room) : Type 0 where
  pub shared : s.shared ≡ r.shared
  pub ticket : s.ticket ≡ r.ticket
  pub conditions : s.conditions ≡ r.conditions
  pub ranks : s.index.ranks ≡ r.index.ranks
  pub measures : s.measures ≡ r.measures
  pub next_ticket : s.next_ticket ≡ r.next_ticket

-- 0 in every slot of every job
abbrev pub no_conditions : ClosedSlots
no_conditions = closed_slots (replicate 32 0) (replicate 128 0) (replicate 512 0) (replicate 512 0) (replicate 512 (pos 0))

-- these coefficients and values, and 0 in every other array
abbrev pub empty_with : List ℤ → List ℤ → ℕ → Arrays
empty_with coefficients values measures =
    arrays coefficients values (replicate 32 0) (replicate 32 0) no_conditions
    (replicate 32 0) (replicate 128 0) (replicate 128 0) (replicate 4352 0) (replicate 34 0) measures 0

abbrev pub empty : Arrays
empty = empty_with (replicate 128 (pos 0)) (replicate 8 (pos 0)) 0

-- An opening, an atom and a condition: what is written reads back as the same, and what was read is written as it stood. Lists of document 01's lengths are
-- all that is asked.
use Rattle.std.specs.Prelude.{◌≡◌, List}
use Rattle.rules.specs.Limits.{variables, locals}
use Rattle.rules.specs.Condition.{Given}
use Rattle.rules.specs.Room.{Room, opened}
use Rattle.rules.specs.Writer.{Written, write_opening}
use Rattle.rules.specs.Laws.Bounds.{Each}
use Rattle.rules.specs.Laws.Halves.{Many}

abbrev pub Any : {A : Type 0} → A → Type 0
Any a = Unit {0}

-- ---- openings
pub record OpeningShape (r : Room) : Type 0 where
  pub coefficients : Each (Many Any variables) r.measures
  pub values : Many Any variables r.values
  pub opens : opened r.measures r.values ≡ r

abbrev pub write_room : Room → Written
write_room r = write_opening r.measures r.values

-- ---- conditions
abbrev pub AtomShape : Given → Type 0
AtomShape a = Many Any locals a.coefficients

abbrev pub ConditionShape : List (List Given) → Type 0
ConditionShape = Each (Each AtomShape)

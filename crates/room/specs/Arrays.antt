-- A room as it stands in its arrays, and the rules' room that it is. Standings are numbers: 0 outside, 1 at the door, 2 inside, 3 waiting, 4 called.
-- What stands in the slots of a job that neither waits nor is called, its condition and its ticket, is no part of the room.
use Rattle.std.specs.Prelude.{List, ℕ, ◌*◌, eqb, ℤ, pos, get_or, if◌then◌else◌}
use Rattle.rules.specs.Condition.{Condition}
use Rattle.rules.specs.Room.{Room, Standing, outside, door, inside, waiting, called}
use Rattle.condition.specs.From.{from}
use Rattle.condition.specs.Closing.{ClosedSlots}
use Rattle.condition.specs.Closes.{condition_in}

pub record Arrays : Type 0 where
  pub coefficients : List ℤ
  pub values : List ℤ
  pub standing : List ℕ
  pub ticket : List ℕ
  pub slots : ClosedSlots
  pub entry : List ℕ
  pub high : List ℕ
  pub low : List ℕ
  pub places : List ℕ
  pub lengths : List ℕ
  pub measures : ℕ
  pub next : ℕ

abbrev pub arrays : List ℤ → List ℤ → List ℕ → List ℕ → ClosedSlots → List ℕ → List ℕ → List ℕ → List ℕ → List ℕ → ℕ → ℕ → Arrays
arrays coefficients values standing ticket slots entry high low places lengths measures next = record {
  coefficients = coefficients;
  values = values;
  standing = standing;
  ticket = ticket;
  slots = slots;
  entry = entry;
  high = high;
  low = low;
  places = places;
  lengths = lengths;
  measures = measures;
  next = next;
}

abbrev pub standing_of : ℕ → Condition → ℕ → Standing
standing_of code c t = if eqb code 1 then door else if eqb code 2 then inside else if eqb code 3 then waiting c t else if eqb code 4 then called c t else outside

abbrev pub standing_at : Arrays → ℕ → Standing
standing_at a j = standing_of (get_or a.standing j 0) (condition_in a.slots j) (get_or a.ticket j 0)

-- the coefficients of measure m stand from slot 8 * m on
abbrev pub measure_row : List ℤ → ℕ → List ℤ
measure_row coefficients m = from (λ k. get_or coefficients k (pos 0)) 8 (m * 8)

abbrev pub room_of : Arrays → Room
room_of a = record {
  measures = from (measure_row a.coefficients) a.measures 0;
  values = a.values;
  standings = from (standing_at a) 32 0;
  next_ticket = a.next;
}

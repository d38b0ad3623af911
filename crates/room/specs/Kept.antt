-- What a room's arrays keep between events: the rules' invariant, document 01's ranges, and the index over those that wait. It stands for "this room
-- came from an accepted opening and events".
use Rattle.std.specs.Prelude.{◌≡◌, ℕ, ◌*◌, ◌^◌, ◌<◌, ◌≤◌, eqb, ltb, pos, get_or, length}
use Rattle.rules.specs.Demands.Invariant.{Invariant}
use Rattle.condition.specs.Measures.{Ranges}
use Rattle.condition.specs.Closes.{Sized}
use Rattle.index.specs.Index.{Index}
use Rattle.index.specs.Changes.{WordsOf}
use Rattle.search.specs.Live.{SlotsFit}
use Rattle.room.specs.Arrays.{Arrays, room_of}

-- the sizes of the arrays
pub record Sizes (a : Arrays) : Type 0 where
  pub coefficients : length a.coefficients ≡ 128
  pub values : length a.values ≡ 8
  pub standing : length a.standing ≡ 32
  pub ticket : length a.ticket ≡ 32
  pub slots : Sized a.slots
  pub high : length a.high ≡ 128
  pub low : length a.low ≡ 128

-- what the code needs of them, whatever the rules say
pub record Sound (a : Arrays) : Type 0 where
  pub sizes : Sizes a
  pub fit : SlotsFit a.measures a.slots
  pub some-measure : 0 < a.measures
  pub ranges : Ranges a.coefficients a.values a.slots.key
  pub zeros : (k : ℕ) → a.measures * 8 ≤ k → get_or a.coefficients k (pos 0) ≡ pos 0
  pub tickets : (k : ℕ) → get_or a.ticket k 0 < 2 ^ 32
  pub codes : (j : ℕ) → get_or a.standing j 0 ≤ 4
  pub index : Index a.slots a.ticket a.entry a.high a.low a.places a.lengths
  -- those that stand waiting are in the index
  pub waits : (j : ℕ) → ltb 0 (get_or a.entry j 0) ≡ eqb (get_or a.standing j 0) 3
  -- no two of those that wait or are called have one ticket
  pub apart : (j k : ℕ) → 3 ≤ get_or a.standing j 0 → 3 ≤ get_or a.standing k 0 → get_or a.ticket j 0 ≡ get_or a.ticket k 0 → j ≡ k
  -- a called job keeps its rank words: it may be sent back
  pub words : (j : ℕ) → get_or a.standing j 0 ≡ 4 → WordsOf a.slots a.ticket a.high a.low j

pub record Kept (a : Arrays) : Type 0 where
  pub sound : Sound a
  pub invariant : Invariant (room_of a)

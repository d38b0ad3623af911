-- "From any accepted opening, after any events in any order, refused ones among them": every such room keeps the invariant, and with it
-- the relay and the total order of ranks. By induction over the list of byte strings that are given as events.
use Rattle.std.specs.Prelude.{◌≡◌, List, [], ◌∷◌, ℕ}
use Rattle.rules.specs.Number.{read}
use Rattle.rules.specs.Room.{Room}
use Rattle.rules.specs.Record.{opening}
use Rattle.rules.specs.Tally.{take}

-- the room after these byte strings, each given as an event
abbrev pub room_after : Room → List (List ℕ) → Room
room_after r [] = r
room_after r (bytes ∷ more) = room_after (take r bytes).result.room more

-- the room came from an accepted opening and events
pub record Reached (r : Room) : Type 0 where
  pub opening-bytes : List ℕ
  pub start : Room
  pub rest : List ℕ
  pub opens : opening opening-bytes ≡ read start rest
  pub events : List (List ℕ)
  pub came : room_after start events ≡ r

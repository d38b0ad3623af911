-- Two rooms that mean the same and hold the same beside it differ at most in where nodes stand inside their heaps: the standings are those of the rules' room,
-- and there is one index of those that wait, but for that. So it is all that an event's contract leaves open.
use Rattle.std.specs.Prelude.{◌≡◌, List, ℕ, ◌<◌, ◌≤◌, eqb, ltb, get_or}
use Rattle.std.proofs.Common.{sym, ap, ◌∙◌, subst, ext_get_or}
use Rattle.homes.specs.Regions.{region}
use Rattle.homes.specs.Moves.{times_in_home}
use Rattle.index.specs.Index.{Index}
use Rattle.index.specs.Unique.{SameIndex, index-unique, rows-unique}
use Rattle.room.specs.declared.room.Room.{Room}
use Rattle.room.specs.Arrays.{Arrays, arrays}
use Rattle.room.specs.Stores.{Store, store_of}
use Rattle.room.specs.Kept.{Kept}
use Rattle.harbour.specs.Rooms.{arrays_of, meaning}
use Rattle.harbour.specs.Looks.{seen_alike}

abbrev pub with_places : Arrays → List ℕ → Arrays
with_places a places = arrays a.coefficients a.values a.standing a.ticket a.slots a.entry a.high a.low places a.lengths a.measures a.next

pub record Alike (room room' : Room) : Type 0 where
  -- every other number is the same
  pub others : with_places (arrays_of room) room'.index.homes.places ≡ arrays_of room'
  -- each home has the same nodes; the two rows have them in the same places
  pub contents : (h x : ℕ) → h < 34 →
      times_in_home room.index.homes.places room.index.homes.lengths h x ≡ times_in_home room'.index.homes.places room'.index.homes.lengths h x
  pub rows : (h : ℕ) → 32 ≤ h → h < 34 → region room.index.homes.places h ≡ region room'.index.homes.places h

module _ (room room' : Room) (k : Kept (arrays_of room)) (k' : Kept (arrays_of room')) (means : meaning room ≡ meaning room')
    (store : store_of (arrays_of room) ≡ store_of (arrays_of room')) where
  abbrev here : Arrays
  here = arrays_of room

  abbrev there : Arrays
  there = arrays_of room'

  same-standing : (j : ℕ) → get_or room.standing j 0 ≡ get_or room'.standing j 0
  same-standing = (seen_alike room room' k k' means).0

  standings : room.standing ≡ room'.standing
  standings = ext_get_or 0 room.standing room'.standing (k.sound.sizes.standing ∙ sym k'.sound.sizes.standing) (λ j h. same-standing j)

  -- the other room's index, over this room's store
  index-here : Index here.slots here.ticket there.entry here.high here.low there.places there.lengths
  index-here = subst (λ (s : Store). Index s.slots s.ticket there.entry s.high s.low there.places there.lengths) (sym store) k'.sound.index

  same-waiting : (j : ℕ) → ltb 0 (get_or here.entry j 0) ≡ ltb 0 (get_or there.entry j 0)
  same-waiting j = k.sound.waits j ∙ ap (λ c. eqb c 3) (same-standing j) ∙ sym (k'.sound.waits j)

  same : SameIndex here.entry there.entry here.places there.places here.lengths there.lengths
  same =
      index-unique here.slots here.ticket here.high here.low here.entry there.entry here.places there.places here.lengths there.lengths
      k.sound.index index-here same-waiting

  pub alike : Alike room room'
  alike = record {
    others = λ i. arrays (store i).coefficients (means i).values (standings i) (store i).ticket (store i).slots
        (same.entries i) (store i).high (store i).low there.places (same.counts i) (store i).measures (means i).next_ticket;
    contents = same.contents;
    rows = rows-unique here.slots here.ticket here.high here.low here.entry there.entry here.places there.places here.lengths there.lengths
        k.sound.index index-here same-waiting k.sound.tickets;
  }

-- "From any accepted opening, after any events in any order, refused ones among them": every such room keeps the invariant, and with it
-- the relay and the total order of ranks. By induction over the list of byte strings that are given as events.
use Rattle.std.specs.Prelude.{◌≡◌, refl, ◌⊎◌, true, List, [], ◌∷◌, ℕ, length}
use Rattle.std.proofs.Common.{subst}
use Rattle.rules.specs.Number.{Read, read, refused}
use Rattle.rules.specs.Rank.{before}
use Rattle.rules.specs.Room.{Room}
use Rattle.rules.specs.Search.{Pair, pairs}
use Rattle.rules.specs.Step.{Event}
use Rattle.rules.specs.Record.{event}
use Rattle.rules.specs.Tally.{taken, take}
use Rattle.rules.specs.Laws.In.{In}
use Rattle.rules.specs.Laws.Waiting.{waiters_of}
use Rattle.rules.specs.Laws.WellFormed.{sound-event, sound-opening}
use Rattle.rules.specs.Demands.Relay.{Relay}
use Rattle.rules.proofs.Demands.Ranks.{ranks-total}
use Rattle.rules.specs.Demands.Invariant.{Invariant}
use Rattle.rules.proofs.Demands.Invariant.{step_keeps, opening-has}
use Rattle.rules.specs.Demands.Reached.{room_after, Reached}

taken-keeps : (r : Room) (bytes : List ℕ) (x : Read Event) → event (length r.measures) bytes ≡ x → Invariant r → Invariant (taken r bytes x).result.room
taken-keeps r bytes (read e rest) d h = step_keeps r e ((sound-event (length r.measures)).gives bytes e rest d).0 h
taken-keeps r bytes (refused n) d h = h

pub take-keeps : (r : Room) (bytes : List ℕ) → Invariant r → Invariant (take r bytes).result.room
take-keeps r [] h = h
take-keeps r (b ∷ bytes) h = taken-keeps r (b ∷ bytes) (event (length r.measures) (b ∷ bytes)) refl h

after-keeps : (r : Room) (events : List (List ℕ)) → Invariant r → Invariant (room_after r events)
after-keeps r [] h = h
after-keeps r (bytes ∷ more) h = after-keeps (take r bytes).result.room more (take-keeps r bytes h)

pub reached-invariant : {r : Room} → Reached r → Invariant r
reached-invariant g = subst Invariant g.came (after-keeps g.start g.events (opening-has (sound-opening.gives g.opening-bytes g.start g.rest g.opens).0))

-- demand 3, first sentence
pub reached-relay : {r : Room} → Reached r → Relay r
reached-relay g = (reached-invariant g).relay

-- two pairs of one room have different ranks, or are one
pub reached-ranks : {r : Room} → Reached r → (p q : Pair) → In p (pairs (waiters_of r)) → In q (pairs (waiters_of r)) →
    (before p.rank q.rank ≡ true) ⊎ (before q.rank p.rank ≡ true) ⊎ (p ≡ q)
reached-ranks {r} g = ranks-total r (reached-invariant g).tickets-apart

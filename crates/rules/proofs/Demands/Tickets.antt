-- The tickets that jobs hold are below the next one, and no two jobs hold one: a new ticket is the next one, and a search and a
-- sending back move a job's ticket with it.
use Rattle.std.specs.Prelude.{◌≡◌, refl, ◌⊎◌, List, ℕ, suc, ℤ}
use Rattle.std.proofs.Common.{sym, ap, ◌∙◌, subst, inl, inr, arith}
use Rattle.std.proofs.Math.Option.{Option, none, some}
use Rattle.rules.specs.Limits.{jobs}
use Rattle.rules.specs.Condition.{Condition, closure}
use Rattle.rules.specs.Room.{Room, Standing, outside, door, inside, waiting, called, opened, standing, stand, give_ticket}
use Rattle.rules.specs.Search.{Pair}
use Rattle.rules.specs.Step.{Event, Step, call}
use Rattle.rules.specs.Laws.In.{none-some, some_same}
use Rattle.rules.specs.Laws.Stores.{set-or, kind, all-outside}
use Rattle.rules.specs.Laws.Moves.{Move, refused, arrives, goes_in, comes-back-in, sent_back, assigns, goes_on, begins-to-wait, leaves}
use Rattle.rules.specs.Demands.Calls.{found_in}
use Rattle.rules.proofs.Demands.Calls.{called-only-if-true}
use Rattle.rules.specs.Demands.Tickets.{ticket_of, Has, Tickets, TicketsApart}

-- every ticket of the second room is that job's in the first
abbrev Fewer : Room → Room → Type 0
Fewer r q = (k t : ℕ) → Has q k t → Has r k t

fewer : {n : ℕ} (r q : Room) → Fewer r q → Tickets n r → Tickets n q
fewer r q f h = record { given = λ k t i. h.given k t (f k t i); apart = λ k m t i j. h.apart k m t (f k t i) (f m t j) }

stand-fewer : (r : Room) (j : ℕ) (s : Standing) → ((t : ℕ) → ticket_of s ≡ some t → Has r j t) → Fewer r (stand j s r)
stand-fewer r j s h k t i = elim (set-or r.standings j s k) [
  | inl q ↦ subst (λ n. Has r n t) (sym q.0) (h t (sym (ap ticket_of q.1) ∙ i))
  | inr q ↦ ap ticket_of (sym q) ∙ i
]

no-ticket : (r : Room) (j : ℕ) (s : Standing) → ticket_of s ≡ none → Fewer r (stand j s r)
no-ticket r j s e = stand-fewer r j s (λ t q. absurd (none-some (sym e ∙ q)))

-- ---- a search moves the ticket of the job that it calls, and leaves job j, which did not wait, as it stood
call-fewer : (r : Room) (f : Option Pair) → found_in r ≡ f → Fewer r (call f r)
call-fewer r none e = λ k t i. i
call-fewer r (some p) e = stand-fewer r p.waiter.job (called p.waiter.condition p.waiter.ticket) (λ t q. ap ticket_of (called-only-if-true r p e).0 ∙ q)

call-keeps : (r : Room) (j : ℕ) → ((t : ℕ) (c : Condition) → standing r j ≡ waiting c t → ⊥) → (f : Option Pair) → found_in r ≡ f → standing (call f r) j ≡ standing r j
call-keeps r j sits none e = refl
call-keeps r j sits (some p) e = elim (set-or r.standings p.waiter.job (called p.waiter.condition p.waiter.ticket) j) [
  | inl q ↦ absurd (sits _ _ (ap (standing r) q.0 ∙ (called-only-if-true r p e).0))
  | inr q ↦ q
]

searched-fewer : (r : Room) (j : ℕ) → ((t : ℕ) (c : Condition) → standing r j ≡ waiting c t → ⊥) → (s : Standing) → ((t : ℕ) → ticket_of s ≡ some t → Has r j t) → Fewer r (stand j s (call (found_in r) r))
searched-fewer r j sits s h k t i = call-fewer r (found_in r) refl k t (stand-fewer (call (found_in r) r) j s (λ u q. ap ticket_of (call-keeps r j sits (found_in r) refl) ∙ h u q) k t i)

-- ---- job j takes ticket n
has_new : (n : ℕ) (r : Room) (j : ℕ) (c : Condition) (k t : ℕ) → Has (stand j (waiting c n) r) k t → ((k ≡ j) × (n ≡ t)) ⊎ Has r k t
has_new n r j c k t i = elim (set-or r.standings j (waiting c n) k) [ inl q ↦ inl (q.0, some_same (sym (ap ticket_of q.1) ∙ i)) | inr q ↦ inr (ap ticket_of (sym q) ∙ i) ]

takes : (n : ℕ) (r : Room) (j : ℕ) (c : Condition) → Tickets n r → Tickets (suc n) (stand j (waiting c n) r)
takes n r j c h = record {
  given = λ k t i. elim (has_new n r j c k t i) [ inl q ↦ omega (arith, q.1) | inr q ↦ omega (arith, h.given k t q) ];
  apart = λ k m t i l. two k m t (has_new n r j c k t i) (has_new n r j c m t l);
}
  where
    two : (k m t : ℕ) → ((k ≡ j) × (n ≡ t)) ⊎ Has r k t → ((m ≡ j) × (n ≡ t)) ⊎ Has r m t → k ≡ m
    two k m t (inl p) (inl q) = p.0 ∙ sym q.0
    two k m t (inl p) (inr q) = absurd (omega (arith, p.1, h.given m t q))
    two k m t (inr p) (inl q) = absurd (omega (arith, q.1, h.given k t p))
    two k m t (inr p) (inr q) = h.apart k m t p q

new-ticket : (r : Room) (j : ℕ) (c : Condition) (f : Option Pair) → found_in r ≡ f → TicketsApart r → TicketsApart (stand j (waiting c r.next_ticket) (call f (give_ticket r)))
new-ticket r j c none e g = takes r.next_ticket (give_ticket r) j c (record { given = g.given; apart = g.apart })
new-ticket r j c (some p) e g = takes r.next_ticket (call (some p) (give_ticket r)) j c (fewer (give_ticket r) _ (call-fewer (give_ticket r) (some p) e) (record { given = g.given; apart = g.apart }))

searched-tickets : (r : Room) (j : ℕ) (s : Standing) (f : Option Pair) → found_in r ≡ f → Fewer r (stand j s (call f r)) → TicketsApart r → TicketsApart (stand j s (call f r))
searched-tickets r j s none e h g = fewer r _ h g
searched-tickets r j s (some p) e h g = fewer r _ h g

pub move-tickets : {r : Room} {e : Event} {s : Step} → Move r e s → TicketsApart r → TicketsApart s.room
move-tickets (refused n l h) g = g
move-tickets (goes_on e h) g = g
move-tickets {r} (arrives {j = j} e) g = fewer r _ (no-ticket r j door refl) g
move-tickets {r} (goes_in {j = j} e n) g = fewer r _ (no-ticket r j inside refl) g
move-tickets {r} (comes-back-in {j = j} e n h) g = fewer r _ (no-ticket r j inside refl) g
move-tickets {r} (sent_back {j = j} {t = t} {c = c} e n f) g = searched-tickets r j (waiting c t) (found_in r) refl (searched-fewer r j (λ u d q. omega (arith, ap kind (sym e ∙ q))) (waiting c t) (λ u q. ap ticket_of e ∙ q)) g
move-tickets (assigns e) g = record { given = g.given; apart = g.apart }
move-tickets {r} (begins-to-wait {j = j} {l = l} {g = given} e f h) g = new-ticket r j (closure l given) (found_in r) refl g
move-tickets {r} (leaves {j = j} e) g = searched-tickets r j outside (found_in r) refl (searched-fewer r j (λ u d q. omega (arith, ap kind (sym e ∙ q))) outside (λ t q. absurd (none-some q))) g

pub opened-tickets : (m : List (List ℤ)) (v : List ℤ) → TicketsApart (opened m v)
opened-tickets m v = record { given = λ k t h. absurd (nobody k t h); apart = λ k j t h i. absurd (nobody k t h) }
  where
    nobody : (k t : ℕ) → Has (opened m v) k t → ⊥
    nobody k t h = none-some (sym (ap ticket_of (all-outside jobs k)) ∙ h)

-- What stands between events, in every room that came from an accepted opening and events: the ranges, 32 jobs of which at most one
-- is inside, tickets apart and below the next, conditions that fit the room, and the relay. Proved for each move.
use Rattle.std.specs.Prelude.{◌≡◌, refl, false, List, [], ◌∷◌, ℕ, zero, suc, ◌<◌, ℤ, set, length}
use Rattle.std.proofs.Common.{sym, ap, ◌∙◌, subst, inl, inr, arith, length-set}
use Rattle.std.proofs.Math.Option.{Option, none, some}
use Rattle.std.proofs.lemmas.List.{length-replicate}
use Rattle.rules.specs.Limits.{jobs, value_most, tickets}
use Rattle.rules.specs.Condition.{Condition, closure}
use Rattle.rules.specs.Room.{Room, Standing, outside, door, inside, waiting, called, standing, is_inside, stand, store, give_ticket}
use Rattle.rules.specs.Search.{Pair}
use Rattle.rules.specs.Step.{Event, Step, call, step}
use Rattle.rules.specs.Laws.In.{true-not-false}
use Rattle.rules.specs.Laws.Stores.{set-or, kind, all-outside}
use Rattle.rules.specs.Laws.Bounds.{Within, Each}
use Rattle.rules.specs.Laws.WellFormed.{EventFits, Opening, closure-fits}
use Rattle.rules.specs.Laws.Moves.{Move, refused, arrives, goes_in, comes-back-in, sent_back, assigns, goes_on, begins-to-wait, leaves, NobodyInside}
use Rattle.rules.proofs.Laws.Moves.{step-moves}
use Rattle.rules.specs.Demands.Calls.{found_in}
use Rattle.rules.proofs.Demands.Calls.{called-only-if-true}
use Rattle.rules.specs.Demands.Relay.{Relay}
use Rattle.rules.proofs.Demands.Relay.{move-relay, opened-relay}
use Rattle.rules.specs.Demands.Tickets.{TicketsApart}
use Rattle.rules.proofs.Demands.Tickets.{move-tickets, opened-tickets}
use Rattle.rules.specs.Demands.Invariant.{StandingFits, Invariant}

-- ---- a property of every standing, after job j stands as s, and after a search
module _ (P : Standing → Type 0) where
  stand-everywhere : (r : Room) (j : ℕ) (s : Standing) → P s → ((k : ℕ) → P (standing r k)) → (k : ℕ) → P (standing (stand j s r) k)
  stand-everywhere r j s h g k = elim (set-or r.standings j s k) [ inl q ↦ subst P (sym q.1) h | inr q ↦ subst P (sym q) (g k) ]

  call-everywhere : ((c : Condition) (t : ℕ) → P (waiting c t) → P (called c t)) → (r : Room) (f : Option Pair) → found_in r ≡ f → ((k : ℕ) → P (standing r k)) → (k : ℕ) → P (standing (call f r) k)
  call-everywhere u r none e g = g
  call-everywhere u r (some p) e g = stand-everywhere r p.waiter.job _ (u _ _ (subst P (called-only-if-true r p e).0 (g p.waiter.job))) g

-- ---- who is inside
abbrev Insides : Room → Room → Type 0
Insides r q = (k : ℕ) → standing q k ≡ inside → standing r k ≡ inside

stand-insides : (r : Room) (j : ℕ) (s : Standing) → is_inside s ≡ false → Insides r (stand j s r)
stand-insides r j s e k h = elim (set-or r.standings j s k) [ inl q ↦ true-not-false refl (ap is_inside (sym h ∙ q.1) ∙ e) | inr q ↦ sym q ∙ h ]

call-insides : (r : Room) (f : Option Pair) → Insides r (call f r)
call-insides r none = λ k h. h
call-insides r (some p) = stand-insides r p.waiter.job _ refl

goes-inside : (r : Room) (j : ℕ) → NobodyInside r → (i k : ℕ) → standing (stand j inside r) i ≡ inside → standing (stand j inside r) k ≡ inside → i ≡ k
goes-inside r j n i k h g = is-j i h ∙ sym (is-j k g)
  where
    is-j : (m : ℕ) → standing (stand j inside r) m ≡ inside → m ≡ j
    is-j m e = elim (set-or r.standings j inside m) [ inl q ↦ q.0 | inr q ↦ true-not-false (ap is_inside (sym q ∙ e)) (n m) ]

-- ---- numbers after a store
each_set : {A : Type 0} (P : A → Type 0) (l : List A) (i : ℕ) (a : A) → P a → Each P l → Each P (set l i a)
each_set P [] i a h e = e
each_set P (b ∷ l) zero a h e = (h, e.1)
each_set P (b ∷ l) (suc i) a h e = (e.0, each_set P l i a h e.1)

-- ---- the moves
-- standings have changed, and the tickets and the relay are known to be kept
module _ {r : Room} (h : Invariant r) where
  abbrev n : ℕ
  n = length r.measures

  -- job j stands as s
  stands : (j : ℕ) (s : Standing) → ((i k : ℕ) → standing (stand j s r) i ≡ inside → standing (stand j s r) k ≡ inside → i ≡ k) → StandingFits n s →
      TicketsApart (stand j s r) → Relay (stand j s r) → Invariant (stand j s r)
  stands j s one f t u = record {
    measures = h.measures;
    coefficients = h.coefficients;
    values = h.values;
    jobs-stand = length-set r.standings j s ∙ h.jobs-stand;
    one_inside = one;
    tickets-apart = t;
    tickets-given = h.tickets-given;
    conditions = stand-everywhere (StandingFits n) r j s f h.conditions;
    relay = u;
  }

  -- not inside
  stays_out : (j : ℕ) (s : Standing) → is_inside s ≡ false → StandingFits n s → TicketsApart (stand j s r) → Relay (stand j s r) → Invariant (stand j s r)
  stays_out j s o = stands j s (λ i k a b. h.one_inside i k (stand-insides r j s o i a) (stand-insides r j s o k b))

  after-search : (j : ℕ) (s : Standing) → is_inside s ≡ false → StandingFits n s → (f : Option Pair) → found_in r ≡ f → TicketsApart (stand j s (call f r)) → Relay (stand j s (call f r)) → Invariant (stand j s (call f r))
  after-search j s o u none d t v = stays_out j s o u t v
  after-search j s o u (some p) d t v = record {
    measures = h.measures;
    coefficients = h.coefficients;
    values = h.values;
    jobs-stand = length-set (call (some p) r).standings j s ∙ length-set r.standings p.waiter.job (called p.waiter.condition p.waiter.ticket) ∙ h.jobs-stand;
    one_inside = λ i k a b. h.one_inside i k (was i a) (was k b);
    tickets-apart = t;
    tickets-given = h.tickets-given;
    conditions = stand-everywhere (StandingFits n) (call (some p) r) j s u (call-everywhere (StandingFits n) (λ c t w. w) r (some p) d h.conditions);
    relay = v;
  }
    where
      was : Insides r (stand j s (call (some p) r))
      was k a = call-insides r (some p) k (stand-insides (call (some p) r) j s o k a)

-- a ticket more is given
gave : {r : Room} → Invariant r → r.next_ticket < tickets → Invariant (give_ticket r)
gave h l = record {
  measures = h.measures;
  coefficients = h.coefficients;
  values = h.values;
  jobs-stand = h.jobs-stand;
  one_inside = h.one_inside;
  tickets-apart = record { given = λ k t i. omega (arith, h.tickets-apart.given k t i); apart = h.tickets-apart.apart };
  tickets-given = l;
  conditions = h.conditions;
  relay = λ e k t c s u. let w = h.relay e k t c s u in record { job = w.job; ticket = w.ticket; condition = w.condition; stands = w.stands; holds = w.holds };
}

assigned : {r : Room} (v : ℕ) (x : ℤ) → Within value_most x → Invariant r → TicketsApart (store v x r) → Relay (store v x r) → Invariant (store v x r)
assigned {r} v x w h t u = record {
  measures = h.measures;
  coefficients = h.coefficients;
  values = (length-set r.values v x ∙ h.values.0, each_set (Within value_most) r.values v x w h.values.1);
  jobs-stand = h.jobs-stand;
  one_inside = h.one_inside;
  tickets-apart = t;
  tickets-given = h.tickets-given;
  conditions = h.conditions;
  relay = u;
}

pub move-keeps : {r : Room} {e : Event} {s : Step} → Move r e s → EventFits (length r.measures) e → Invariant r → Invariant s.room
move-keeps {r} m f h = go m f (move-tickets m h.tickets-apart) (move-relay m h.relay)
  where
    go : {e : Event} {s : Step} → Move r e s → EventFits (length r.measures) e → TicketsApart s.room → Relay s.room → Invariant s.room
    go (refused n l k) f t u = h
    go (goes_on s k) f t u = h
    go (arrives {j = j} s) f t u = stays_out h j door refl tt t u
    go (goes_in {j = j} s o) f t u = stands h j inside (goes-inside r j o) tt t u
    go (comes-back-in {j = j} s o b) f t u = stands h j inside (goes-inside r j o) tt t u
    go (sent_back {j = j} {t = k} {c = c} s o b) f t u = after-search h j (waiting c k) refl (subst (StandingFits (length r.measures)) s (h.conditions j)) (found_in r) refl t u
    go (assigns {v = v} {x = x} s) f t u = assigned v x f.2 h t u
    go (begins-to-wait {j = j} {l = l} {g = g} s b k) f t u =
        after-search (gave h k) j (waiting (closure l g) r.next_ticket) refl (closure-fits (length r.measures) l g f.1 f.2) (found_in r) refl t u
    go (leaves {j = j} s) f t u = after-search h j outside refl tt (found_in r) refl t u

pub step_keeps : (r : Room) (e : Event) → EventFits (length r.measures) e → Invariant r → Invariant (step r e).room
step_keeps r e = move-keeps (step-moves r e)

-- an accepted opening has it
pub opening-has : {r : Room} → Opening r → Invariant r
opening-has o = subst Invariant (sym o.is) (record {
  measures = o.counted;
  coefficients = o.coefficients;
  values = o.shared;
  jobs-stand = length-replicate jobs outside;
  one_inside = λ j k a b. absurd (omega (arith, ap kind (sym (all-outside jobs j) ∙ a)));
  tickets-apart = opened-tickets o.measures o.values;
  tickets-given = omega arith;
  conditions = λ k. subst (StandingFits (length o.measures)) (sym (all-outside jobs k)) tt;
  relay = opened-relay o.measures o.values;
})

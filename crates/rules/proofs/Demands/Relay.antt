-- Demand 3, first sentence: between events, if nobody is inside and some waiting job's condition is true, then a job already
-- called has a true condition too. Only Leave, a Wait that waits and an Admit that sends back empty the room, and each makes a
-- search: it calls a true job if there is one. While somebody is inside the sentence says nothing.
use Rattle.std.specs.Prelude.{◌≡◌, refl, ◌⊎◌, true, false, List, ℕ, ℤ}
use Rattle.std.proofs.Common.{sym, ap, ◌∙◌, inl, inr, arith, get_or-set_same}
use Rattle.std.proofs.Math.Option.{Option, none, some}
use Rattle.rules.specs.Limits.{jobs}
use Rattle.rules.specs.Condition.{Condition, condition_true, closure}
use Rattle.rules.specs.Room.{Room, Standing, outside, door, inside, waiting, opened, standing, now, is_inside, stand, store, give_ticket}
use Rattle.rules.specs.Search.{Pair}
use Rattle.rules.specs.Step.{Event, Step, call, step}
use Rattle.rules.specs.Laws.In.{true-not-false}
use Rattle.rules.specs.Laws.Waiting.{outside-waiting}
use Rattle.rules.specs.Laws.Stores.{set-or, within, kind, all-outside}
use Rattle.rules.specs.Laws.Moves.{Move, refused, arrives, goes_in, comes-back-in, sent_back, assigns, goes_on, begins-to-wait, leaves}
use Rattle.rules.proofs.Laws.Moves.{step-moves}
use Rattle.rules.specs.Demands.Calls.{found_in}
use Rattle.rules.proofs.Demands.Calls.{called-only-if-true, nobody-exactly, stands-called}
use Rattle.rules.specs.Demands.Relay.{CalledTrue, Relay}

same-condition : (v : List ℤ) {c d : Condition} {t u : ℕ} → waiting c t ≡ waiting d u → condition_true v c ≡ false → condition_true v d ≡ false
same-condition v {c} {d} q f = let e : c ≡ d = cc in ap (condition_true v) (sym e) ∙ f

-- ---- after a search, where job j did not wait before, and does not wait for something true after it
module _ (r : Room) (j : ℕ) (s : Standing)
    (sits : (t : ℕ) (c : Condition) → standing r j ≡ waiting c t → ⊥)
    (false-s : (t : ℕ) (c : Condition) → s ≡ waiting c t → condition_true (now r) c ≡ false) where
  sat : (f : Option Pair) → found_in r ≡ f → (k t : ℕ) (c : Condition) → standing (call f r) k ≡ waiting c t → condition_true (now r) c ≡ true → CalledTrue (stand j s (call f r))
  sat none f k t c e h = true-not-false h ((nobody-exactly r).0 f k t c e)
  sat (some p) f k t c e h = record {
    job = p.waiter.job;
    ticket = p.waiter.ticket;
    condition = p.waiter.condition;
    stands = stands-called r j s sits p f;
    holds = (called-only-if-true r p f).1;
  }

  from : (f : Option Pair) → found_in r ≡ f → Relay (stand j s (call f r))
  from f d empty k t c e h = go (set-or (call f r).standings j s k)
    where
      now-same : (g : Option Pair) → now (stand j s (call g r)) ≡ now r
      now-same none = refl
      now-same (some p) = refl

      go : ((k ≡ j) × (standing (stand j s (call f r)) k ≡ s)) ⊎ (standing (stand j s (call f r)) k ≡ standing (call f r) k) → CalledTrue (stand j s (call f r))
      go (inl q) = true-not-false (ap (λ n. condition_true n c) (sym (now-same f)) ∙ h) (false-s t c (sym q.1 ∙ e))
      go (inr q) = sat f d k t c (sym q ∙ e) (ap (λ n. condition_true n c) (sym (now-same f)) ∙ h)

  searched-relay : Relay (stand j s (call (found_in r) r))
  searched-relay = from (found_in r) refl

-- ---- the other events
busy : (r : Room) (j : ℕ) → is_inside (standing r j) ≡ true → Relay r
busy r j e empty = true-not-false e (empty j)

entered : (r : Room) (j : ℕ) → (standing r j ≡ outside → ⊥) → Relay (stand j inside r)
entered r j h = busy (stand j inside r) j (ap is_inside (get_or-set_same r.standings j inside outside (within r.standings j h)))

arrived : (r : Room) (j : ℕ) → standing r j ≡ outside → Relay r → Relay (stand j door r)
arrived r j out old empty k t c e h =
    let was = old (λ n. elim (set-or r.standings j door n) [ inl q ↦ ap (λ m. is_inside (standing r m)) q.0 ∙ ap is_inside out | inr q ↦ ap is_inside (sym q) ∙ empty n ])
    k t c (elim (set-or r.standings j door k) [ inl q ↦ absurd (omega (arith, ap kind (sym q.1 ∙ e))) | inr q ↦ sym q ∙ e ]) h in
    record {
      job = was.job;
      ticket = was.ticket;
      condition = was.condition;
      holds = was.holds;
      stands = elim (set-or r.standings j door was.job) [ inl q ↦ absurd (omega (arith, ap kind (sym out ∙ sym (ap (standing r) q.0) ∙ was.stands))) | inr q ↦ q ∙ was.stands ];
    }

pub move-relay : {r : Room} {e : Event} {s : Step} → Move r e s → Relay r → Relay s.room
move-relay (refused n l h) old = old
move-relay (goes_on e h) old = old
move-relay {r} (arrives {j = j} e) old = arrived r j e old
move-relay {r} (goes_in {j = j} e n) old = entered r j (λ q. omega (arith, ap kind (sym q ∙ e)))
move-relay {r} (comes-back-in {j = j} e n h) old = entered r j (λ q. omega (arith, ap kind (sym q ∙ e)))
move-relay {r} (sent_back {j = j} {t = t} {c = c} e n f) old = searched-relay r j (waiting c t) (λ t' c' q. omega (arith, ap kind (sym e ∙ q))) (λ t' c' q. same-condition (now r) q f)
move-relay {r} (assigns {j = j} {v = v} {x = x} e) old = busy (store v x r) j (ap is_inside e)
move-relay {r} (begins-to-wait {j = j} {l = l} {g = g} e f h) old = searched-relay (give_ticket r) j (waiting (closure l g) r.next_ticket) (λ t' c' q. omega (arith, ap kind (sym e ∙ q))) (λ t' c' q. same-condition (now r) q f)
move-relay {r} (leaves {j = j} e) old = searched-relay r j outside (λ t c q. omega (arith, ap kind (sym e ∙ q))) (λ t c q. absurd (outside-waiting q))

pub step-relay : (r : Room) (e : Event) → Relay r → Relay (step r e).room
step-relay r e = move-relay (step-moves r e)

pub opened-relay : (m : List (List ℤ)) (v : List ℤ) → Relay (opened m v)
opened-relay m v empty k t c e h = absurd (outside-waiting (sym (all-outside jobs k) ∙ e))

-- The numbers of a report are small: 32 jobs wait at most, each with at most four alternatives, and a refusal is 1 to 7.
use Rattle.std.specs.Prelude.{◌≡◌, refl, Bool, not, List, [], ◌∷◌, ℕ, suc, ◌*◌, ◌<◌, ◌≤◌, length}
use Rattle.std.proofs.Common.{sym, ap, ◌∙◌, subst, inl, inr, arith, length-append}
use Rattle.std.proofs.Math.Option.{Option, none, some}
use Rattle.rules.specs.Base.{those, gather}
use Rattle.rules.specs.Condition.{Condition}
use Rattle.rules.specs.Number.{Read, read, refused}
use Rattle.rules.specs.Record.{event}
use Rattle.rules.specs.Room.{Room, Standing, outside, door, inside, waiting, called, now}
use Rattle.rules.specs.Search.{Waiter, Pair, waiters, pairs_of, pairs, follows, evaluated}
use Rattle.rules.specs.Step.{Event, Report, accepted, refusal, nothing, Step, job_of}
use Rattle.rules.specs.Tally.{take, taken}
use Rattle.rules.specs.Laws.In.{In, by_bool, in-those}
use Rattle.rules.specs.Laws.Moves as moves
use Rattle.rules.proofs.Laws.Moves.{step-moves}
use Rattle.rules.specs.Laws.Stores.{within}
use Rattle.rules.specs.Laws.Waiting.{waiters_of, waits_there, outside-waiting}
use Rattle.rules.specs.Laws.WellFormed.{sound-event}
use Rattle.rules.specs.Demands.Calls.{found_in}
use Rattle.rules.proofs.Demands.Calls.{called-only-if-true}
use Rattle.rules.specs.Demands.Invariant.{Invariant, StandingFits}

-- ---- lists
those-fewer : {A : Type 0} (p : A → Bool) (l : List A) → length (those p l) ≤ length l
those-fewer p [] = omega arith
those-fewer p (a ∷ l) = by_bool (p a) (λ t. rw t (omega (arith, those-fewer p l))) (λ f. rw f (omega (arith, those-fewer p l)))

gather-fours : {A B : Type 0} (f : A → List B) (l : List A) → ((a : A) → In a l → length (f a) ≤ 4) → length (gather f l) ≤ 4 * length l
gather-fours f [] h = omega arith
gather-fours f (a ∷ l) h = omega (arith, length-append (f a) (gather f l), h a (inl refl), gather-fours f l (λ b i. h b (inr i)))

pairs-many : (w : Waiter) (place : ℕ) (c : Condition) → length (pairs_of w place c) ≡ length c
pairs-many w place [] = refl
pairs-many w place (a ∷ c) = ap suc (pairs-many w (suc place) c)

waiters-fewer : (j : ℕ) (l : List Standing) → length (waiters j l) ≤ length l
waiters-fewer j [] = omega arith
waiters-fewer j (outside ∷ l) = omega (arith, waiters-fewer (suc j) l)
waiters-fewer j (door ∷ l) = omega (arith, waiters-fewer (suc j) l)
waiters-fewer j (inside ∷ l) = omega (arith, waiters-fewer (suc j) l)
waiters-fewer j (called c t ∷ l) = omega (arith, waiters-fewer (suc j) l)
waiters-fewer j (waiting c t ∷ l) = omega (arith, waiters-fewer (suc j) l)

-- of 32 jobs at most, with four alternatives at most
few : (p : Pair → Bool) (q : Waiter → Bool) (ws : List Waiter) → ((w : Waiter) → In w ws → length w.condition ≤ 4) → length ws ≤ 32 → length (those p (pairs (those q ws))) ≤ 128
few p q ws h n =
    omega (arith, those-fewer p (pairs (those q ws)), those-fewer q ws, gather-fours (λ w. pairs_of w 0 w.condition) (those q ws) (λ w i. rw (pairs-many w 0 w.condition) (h w (in-those q ws i).0)))

-- ---- a search
module _ (r : Room) (i : Invariant r) where
  four : (w : Waiter) → In w (waiters_of r) → length w.condition ≤ 4
  four w h = (subst (StandingFits (length r.measures)) (waits_there r w h) (i.conditions w.job)).0.1

  pub few-evaluated : evaluated (now r) (waiters_of r) ≤ 128
  few-evaluated = few _ (λ w. not (follows (waiters_of r) w)) (waiters_of r) four (omega (arith, waiters-fewer 0 r.standings, i.jobs-stand))

  pub few-jobs : (p : Pair) → found_in r ≡ some p → p.waiter.job < 32
  few-jobs p e =
      omega (arith, i.jobs-stand, within r.standings p.waiter.job (λ o. outside-waiting (sym o ∙ (called-only-if-true r p e).0)))

-- ---- what a report says, then
abbrev pub JobFew : Option ℕ → Type 0
JobFew none = Unit {0}
JobFew (some j) = j < 32

abbrev pub Small : Report → Type 0
Small (accepted o j n) = JobFew j × (n ≤ 128)
Small (refusal k) = k ≤ 7
Small nothing = Unit {0}

module _ (r : Room) (i : Invariant r) where
  found-few : (f : Option Pair) → found_in r ≡ f → JobFew (job_of f)
  found-few none e = tt
  found-few (some p) e = few-jobs r i p e

  move-small : {e : Event} {s : Step} → moves.Move r e s → Small s.report
  move-small (moves.refused n l h) = h
  move-small (moves.arrives e) = (tt, omega arith)
  move-small (moves.goes_in e n) = (tt, omega arith)
  move-small (moves.comes-back-in e n h) = (tt, omega arith)
  move-small (moves.sent_back e n h) = (found-few (found_in r) refl, few-evaluated r i)
  move-small (moves.assigns e) = (tt, omega arith)
  move-small (moves.goes_on e h) = (tt, omega arith)
  move-small (moves.begins-to-wait e h l) = (found-few (found_in r) refl, few-evaluated r i)
  move-small (moves.leaves e) = (found-few (found_in r) refl, few-evaluated r i)

  taken-small : (bytes : List ℕ) (x : Read Event) → event (length r.measures) bytes ≡ x → Small (taken r bytes x).result.report
  taken-small bytes (read e rest) d = move-small (step-moves r e)
  taken-small bytes (refused n) d = omega (arith, ((sound-event (length r.measures)).refuses bytes n d).1)

  pub take-small : (bytes : List ℕ) → Small (take r bytes).result.report
  take-small [] = tt
  take-small (b ∷ bytes) = taken-small (b ∷ bytes) (event (length r.measures) (b ∷ bytes)) refl

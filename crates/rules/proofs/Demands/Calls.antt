-- Demand 2: a search calls a job only if its condition is true, and nobody exactly if no waiting job's condition is true.
-- The pair found is in the list of true pairs, and a true condition has a true alternative, whose pair is in that list.
use Rattle.std.specs.Prelude.{◌≡◌, refl, ◌↔◌, true, false, List, ℕ, ℤ}
use Rattle.std.proofs.Common.{sym, ap, ◌∙◌, get_or-set_same, get_or-set_other}
use Rattle.std.proofs.Math.Option.{Option, none, some}
use Rattle.rules.specs.Base.{those}
use Rattle.rules.specs.Condition.{Condition, alternative_true, condition_true}
use Rattle.rules.specs.Room.{Room, Standing, outside, waiting, called, standing, now, stand}
use Rattle.rules.specs.Search.{Waiter, Pair, pairs, found}
use Rattle.rules.specs.Step.{call}
use Rattle.rules.specs.Laws.In.{In, by_bool, true-not-false, in-those, those-in, any-in, any_some, gather-in}
use Rattle.rules.specs.Laws.Least.{least-in, least-none}
use Rattle.rules.specs.Laws.Waiting.{pair_of, in-pairs_of, of, waiters_of, waits_there, there-waits, outside-waiting}
use Rattle.rules.specs.Laws.Stores.{within}
use Rattle.rules.specs.Demands.Calls.{is_true, found_in, NoneTrue}

module _ (now : List ℤ) (ws : List Waiter) where
  pub found-true : (p : Pair) → found now ws ≡ some p → In p (pairs ws) × (is_true now p ≡ true)
  found-true p e = in-those (is_true now) (pairs ws) (least-in (those (is_true now) (pairs ws)) p e)

  pub waiter-true : (p : Pair) → found now ws ≡ some p → In p.waiter ws × (condition_true now p.waiter.condition ≡ true)
  waiter-true p e =
      let f = found-true p e in
      let q = pair_of ws p f.0 in
      (q.0, any-in (alternative_true now) p.waiter.condition q.1 f.1)

  true-found : (w : Waiter) → In w ws → condition_true now w.condition ≡ true → found now ws ≡ none → ⊥
  true-found w h t e =
      let a = any_some (alternative_true now) w.condition t in
      let p = in-pairs_of w a.0 0 w.condition a.1 in
      let i = gather-in of w p.0 ws h p.1 in
      least-none (those (is_true now) (pairs ws)) p.0 (those-in (is_true now) (pairs ws) i (ap (alternative_true now) p.2 ∙ a.2)) e

  nobody : (found now ws ≡ none) ↔ ((w : Waiter) → In w ws → condition_true now w.condition ≡ false)
  nobody = (λ e w h. by_bool (condition_true now w.condition) (λ t. absurd (true-found w h t e)) (λ t. t), λ h. go h (found now ws) refl)
    where
      go : ((w : Waiter) → In w ws → condition_true now w.condition ≡ false) → (o : Option Pair) → found now ws ≡ o → found now ws ≡ none
      go h none e = e
      go h (some p) e = let c = waiter-true p e in true-not-false c.1 (h p.waiter c.0)

-- the job found waits in the room, and its condition is true
pub called-only-if-true : (r : Room) (p : Pair) → found_in r ≡ some p →
    (standing r p.waiter.job ≡ waiting p.waiter.condition p.waiter.ticket) × (condition_true (now r) p.waiter.condition ≡ true)
called-only-if-true r p e = let c = waiter-true (now r) (waiters_of r) p e in (waits_there r p.waiter c.0, c.1)

pub nobody-exactly : (r : Room) → (found_in r ≡ none) ↔ NoneTrue r
nobody-exactly r = (
  λ e j t c h. (nobody (now r) (waiters_of r)).0 e _ (there-waits r j t c h),
  λ n. (nobody (now r) (waiters_of r)).1 (λ w h. n w.job w.ticket w.condition (waits_there r w h)),
)

-- after the search, and after job j, which did not wait, stands as s, the job found stands called
pub stands-called : (r : Room) (j : ℕ) (s : Standing) → ((t : ℕ) (c : Condition) → standing r j ≡ waiting c t → ⊥) → (p : Pair) → found_in r ≡ some p →
    standing (stand j s (call (some p) r)) p.waiter.job ≡ called p.waiter.condition p.waiter.ticket
stands-called r j s sits p e =
    let w = (called-only-if-true r p e).0 in
    get_or-set_other (call (some p) r).standings j p.waiter.job s outside (λ q. sits _ _ (ap (standing r) (sym q) ∙ w))
    ∙ get_or-set_same r.standings p.waiter.job _ outside (within r.standings p.waiter.job (λ q. outside-waiting (sym q ∙ w)))

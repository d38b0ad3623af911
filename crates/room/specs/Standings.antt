-- One job's standing is stored, and the rules' room changes as `stand` says; and those that stand waiting are those in the index.
use Rattle.std.specs.Prelude.{◌≡◌, false, [], ◌++◌, eqb, ltb, get_or, set}
use Rattle.std.proofs.Math.Path.{refl}
use Rattle.std.proofs.Common.{sym, ap, ◌∙◌, arith, eqb-true, eq-eqb, ne_eqb}
use Prim.Native.Nat.{ℕ, zero, suc, ◌+◌, ◌<◌}
use Rattle.rules.specs.Base.{gather}
use Rattle.rules.specs.Condition.{Condition}
use Rattle.rules.specs.Room.{Standing, outside, door, inside, waiting, called, standing}
use Rattle.rules.specs.Search.{waiter, waiters}
use Rattle.rules.specs.Laws.In.{by_bool}
use Rattle.condition.specs.From.{from, from-get, from-set}
use Rattle.condition.specs.Closes.{condition_in}
use Rattle.search.specs.Pairs.{waiter_if, waiters_in}
use Rattle.room.specs.Arrays.{Arrays, standing_of, standing_at, room_of}

pub standing-is : (a : Arrays) (j : ℕ) → j < 32 → standing (room_of a) j ≡ standing_at a j
standing-is a j h = let z : 0 + j ≡ j = omega arith in from-get outside (standing_at a) 32 0 j h ∙ ap (standing_at a) z

pub standings-set : (a b : Arrays) (j : ℕ) (s : Standing) → j < 32 → standing_at b j ≡ s → ((k : ℕ) → k < 32 → (k ≡ j → ⊥) → standing_at b k ≡ standing_at a k) →
    from (standing_at b) 32 0 ≡ set (from (standing_at a) 32 0) j s
standings-set a b j s h e o = from-set (standing_at a) (standing_at b) 32 0 j s h (ap (standing_at b) (zero-plus j) ∙ e) (λ k l d. ap (standing_at b) (zero-plus k) ∙ o k l d ∙ ap (standing_at a) (sym (zero-plus k)))
  where
    zero-plus : (k : ℕ) → 0 + k ≡ k
    zero-plus k = omega arith

-- ---- who waits
module _ (c : Condition) (t : ℕ) where
  pub code-door : (code : ℕ) → code ≡ 1 → standing_of code c t ≡ door
  code-door code e = rw (eq-eqb code 1 e)

  pub code_inside : (code : ℕ) → code ≡ 2 → standing_of code c t ≡ inside
  code_inside code e = rw (ne_eqb code 1 (λ z. omega (arith, z)), eq-eqb code 2 e)

  pub code-waiting : (code : ℕ) → code ≡ 3 → standing_of code c t ≡ waiting c t
  code-waiting code e = rw (ne_eqb code 1 (λ z. omega (arith, z)), ne_eqb code 2 (λ z. omega (arith, z)), eq-eqb code 3 e)

  pub code-called : (code : ℕ) → code ≡ 4 → standing_of code c t ≡ called c t
  code-called code e = rw (ne_eqb code 1 (λ z. omega (arith, z)), ne_eqb code 2 (λ z. omega (arith, z)), ne_eqb code 3 (λ z. omega (arith, z)), eq-eqb code 4 e)

  not-waiting : (j code : ℕ) → eqb code 3 ≡ false → waiter j (standing_of code c t) ≡ []
  not-waiting j code f = by_bool (eqb code 1) (λ e. rw e) (λ e. by_bool (eqb code 2) (λ g. rw (e, g)) (λ g. by_bool (eqb code 4) (λ h. rw (e, g, f, h)) (λ h. rw (e, g, f, h))))

module _ (a : Arrays) (waits : (j : ℕ) → ltb 0 (get_or a.entry j 0) ≡ eqb (get_or a.standing j 0) 3) where
  one-waits : (j : ℕ) → waiter j (standing_at a j) ≡ waiter_if a.slots a.ticket a.entry (ltb 0 (get_or a.entry j 0)) j
  one-waits j = by_bool (eqb (get_or a.standing j 0) 3)
      (λ e. ap (waiter j) (code-waiting (condition_in a.slots j) (get_or a.ticket j 0) (get_or a.standing j 0) (eqb-true (get_or a.standing j 0) 3 e)) ∙ rw (waits j ∙ e) refl)
      (λ e. not-waiting (condition_in a.slots j) (get_or a.ticket j 0) j (get_or a.standing j 0) e ∙ rw (waits j ∙ e) refl)

  pub waiters-same : waiters 0 (room_of a).standings ≡ waiters_in a.slots a.ticket a.entry
  unfolding waiters_in
  waiters-same = go 32 0
    where
      go : (n j : ℕ) → waiters j (from (standing_at a) n j) ≡ gather (λ k. waiter_if a.slots a.ticket a.entry (ltb 0 (get_or a.entry k 0)) k) (from (λ k. k) n j)
      go zero j = refl
      go (suc n) j = (λ i. one-waits j i ++ go n (suc j) i)

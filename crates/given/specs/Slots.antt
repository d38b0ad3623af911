-- What is put into slots one after the other stands there afterwards: a put changes no slot before its own, and what is asked of the slots
-- stays.
use Rattle.std.specs.Prelude.{◌≡◌, refl, List, [], ◌∷◌, ℕ, zero, suc, ◌+◌, ◌<◌, ◌≤◌, get_or, set, length, replicate}
use Rattle.std.proofs.Common.{◌∙◌, arith}
use Rattle.rules.specs.Laws.Bounds.{Each}
use Rattle.wire.specs.Into.{put_all}
use Rattle.condition.specs.From.{from}

-- `at` is what stands in a slot, P is asked of what is put, and Good of the slots
pub record Puts {A S : Type 0} (put : ℕ → S → A → S) (at : S → ℕ → A) (P : A → Type 0) (Good : S → Type 0) (most : ℕ) : Type 0 where
  pub same : (slot : ℕ) (s : S) (a : A) → slot < most → Good s → P a → at (put slot s a) slot ≡ a
  pub kept : (slot k : ℕ) (s : S) (a : A) → k < slot → at (put slot s a) k ≡ at s k
  pub good : (slot : ℕ) (s : S) (a : A) → Good s → P a → Good (put slot s a)

module _ {A S : Type 0} {put : ℕ → S → A → S} {at : S → ℕ → A} {P : A → Type 0} {Good : S → Type 0} {most : ℕ} (puts : Puts put at P Good most) where
  pub all-kept : (l : List A) (slot k : ℕ) (s : S) → k < slot → at (put_all put slot s l) k ≡ at s k
  all-kept [] slot k s h = refl
  all-kept (a ∷ l) slot k s h = all-kept l (suc slot) k (put slot s a) (omega arith) ∙ puts.kept slot k s a h

  pub all-good : (l : List A) (slot : ℕ) (s : S) → Good s → Each P l → Good (put_all put slot s l)
  all-good [] slot s g e = g
  all-good (a ∷ l) slot s g e = all-good l (suc slot) (put slot s a) (puts.good slot s a g e.0) e.1

  pub all_back : (l : List A) (slot : ℕ) (s : S) → slot + length l ≤ most → Good s → Each P l → from (at (put_all put slot s l)) (length l) slot ≡ l
  all_back [] slot s h g e = refl
  all_back (a ∷ l) slot s h g e =
      let first : at (put_all put slot s (a ∷ l)) slot ≡ a = all-kept l (suc slot) slot (put slot s a) (omega arith) ∙ puts.same slot s a (omega arith) g e.0 in
      λ i. first i ∷ all_back l (suc slot) (put slot s a) (omega arith) (puts.good slot s a g e.0) e.1 i

-- ---- what is asked of every place
module _ {A : Type 0} (Q : A → Type 0) (d : A) where
  pub set-every : (l : List A) (i : ℕ) (a : A) → Q a → ((k : ℕ) → Q (get_or l k d)) → (k : ℕ) → Q (get_or (set l i a) k d)
  set-every [] i a q h k = h k
  set-every (x ∷ l) zero a q h zero = q
  set-every (x ∷ l) zero a q h (suc k) = h (suc k)
  set-every (x ∷ l) (suc i) a q h zero = h 0
  set-every (x ∷ l) (suc i) a q h (suc k) = set-every l i a q (λ j. h (suc j)) k

  pub replicate-every : (n : ℕ) → Q d → (k : ℕ) → Q (get_or (replicate n d) k d)
  replicate-every zero q k = q
  replicate-every (suc n) q zero = q
  replicate-every (suc n) q (suc k) = replicate-every n q k

  pub each-every : (l : List A) → Q d → Each Q l → (k : ℕ) → Q (get_or l k d)
  each-every [] q e k = q
  each-every (x ∷ l) q e zero = e.0
  each-every (x ∷ l) q e (suc k) = each-every l q e.1 k

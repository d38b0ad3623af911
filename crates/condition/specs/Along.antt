-- `all` and `any` along places, one place after the other: the laws' premises are the facts that a loop has at its test.
use Rattle.std.specs.Prelude.{◌≡◌, refl, Bool, true, false, ◌&&◌, ℕ, zero, suc, ◌+◌, ◌-◌, ◌<◌, ◌≤◌, if◌then◌else◌}
use Rattle.std.proofs.Common.{sym, ap, ◌∙◌, add-zero, arith}
use Rattle.std.proofs.Math.Nat.{sub-zero}
use Rattle.rules.specs.Base.{all, any, each}
use Rattle.condition.specs.From.{from}

left_one : (n i : ℕ) → i < n → n - i ≡ suc (n - (i + 1))
left_one n i h = omega arith

left-none : (n i : ℕ) → n ≤ i → n - i ≡ 0
left-none n i h = omega arith

next : (p i : ℕ) → suc (p + i) ≡ p + (i + 1)
next p i = omega arith

module _ {A : Type 0} (t : A → Bool) (f : ℕ → A) (n i p : ℕ) where
  abbrev pub all_left : Bool
  all_left = all t (from f (n - i) (p + i))

  abbrev pub any_left : Bool
  any_left = any t (from f (n - i) (p + i))

module _ {A : Type 0} (t : A → Bool) (f : ℕ → A) (n p : ℕ) where
  pub all_start : all_left t f n 0 p ≡ all t (from f n p)
  all_start = rw (sub-zero n, add-zero p)

  pub any-start : any_left t f n 0 p ≡ any t (from f n p)
  any-start = rw (sub-zero n, add-zero p)

  module _ (i : ℕ) where
    all-step : i < n → all_left t f n i p ≡ (t (f (p + i)) && all_left t f n (i + 1) p)
    all-step h = rw (left_one n i h, next p i)

    any_step : i < n → any_left t f n i p ≡ (if t (f (p + i)) then true else any_left t f n (i + 1) p)
    any_step h = rw (left_one n i h, next p i)

    -- r is what the whole comes to, and b what was found at this place
    pub all_more : {r b : Bool} → i < n → all_left t f n i p ≡ r → b ≡ t (f (p + i)) → b ≡ true → all_left t f n (i + 1) p ≡ r
    all_more h e d u = rw (sym d ∙ u) at (sym (all-step h)) ∙ e

    pub all-stop : {r b : Bool} → i < n → all_left t f n i p ≡ r → b ≡ t (f (p + i)) → b ≡ false → false ≡ r
    all-stop h e d u = rw (sym d ∙ u) at (sym (all-step h)) ∙ e

    pub all_done : {r : Bool} → n ≤ i → all_left t f n i p ≡ r → true ≡ r
    all_done h e = rw (left-none n i h) at e

    pub any-more : {r : Bool} → i < n → any_left t f n i p ≡ r → false ≡ t (f (p + i)) → any_left t f n (i + 1) p ≡ r
    any-more h e d = rw (sym d) at (sym (any_step h)) ∙ e

    pub any-stop : {r : Bool} → i < n → any_left t f n i p ≡ r → true ≡ t (f (p + i)) → true ≡ r
    any-stop h e d = rw (sym d) at (sym (any_step h)) ∙ e

    pub any-done : {r : Bool} → n ≤ i → any_left t f n i p ≡ r → false ≡ r
    any-done h e = rw (left-none n i h) at e

-- ---- two lists alike, place by place
module _ {A : Type 0} (same : A → A → Bool) (f g : ℕ → A) (n i p q : ℕ) where
  abbrev pub each_left : Bool
  each_left = each same (from f (n - i) (p + i)) (from g (n - i) (q + i))

module _ {A : Type 0} (same : A → A → Bool) (f g : ℕ → A) where
  -- lists of different lengths are not alike
  pub each-apart : (n m p q : ℕ) → (n ≡ m → ⊥) → false ≡ each same (from f n p) (from g m q)
  each-apart zero zero p q h = absurd (h refl)
  each-apart zero (suc m) p q h = refl
  each-apart (suc n) zero p q h = refl
  each-apart (suc n) (suc m) p q h = each-apart n m (suc p) (suc q) (λ e. h (ap suc e)) ∙ both_false (same (f p) (g q)) (each-apart n m (suc p) (suc q) (λ e. h (ap suc e)))
    where
      both_false : (t : Bool) {u : Bool} → false ≡ u → u ≡ (t && u)
      both_false true e = refl
      both_false false e = sym e

  module _ (n p q : ℕ) where
    pub each_start : {m : ℕ} → n ≡ m → each_left same f g n 0 p q ≡ each same (from f n p) (from g m q)
    each_start e = rw (sub-zero n, add-zero p, add-zero q, e)

    module _ (i : ℕ) where
      each_step : i < n → each_left same f g n i p q ≡ (same (f (p + i)) (g (q + i)) && each_left same f g n (i + 1) p q)
      each_step h = rw (left_one n i h, next p i, next q i)

      pub each_more : {r b : Bool} → i < n → each_left same f g n i p q ≡ r → b ≡ same (f (p + i)) (g (q + i)) → b ≡ true → each_left same f g n (i + 1) p q ≡ r
      each_more h e d u = rw (sym d ∙ u) at (sym (each_step h)) ∙ e

      pub each-stop : {r b : Bool} → i < n → each_left same f g n i p q ≡ r → b ≡ same (f (p + i)) (g (q + i)) → b ≡ false → false ≡ r
      each-stop h e d u = rw (sym d ∙ u) at (sym (each_step h)) ∙ e

      pub each-done : {r : Bool} → n ≤ i → each_left same f g n i p q ≡ r → true ≡ r
      each-done h e = rw (left-none n i h) at e

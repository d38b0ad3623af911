-- The first of n places where a test holds, or n where it holds nowhere: one number, whatever the search looked at.
use Rattle.std.specs.Prelude.{◌≡◌, Option, MatchOption, Bool, true, false, ℕ, ◌+◌, ◌<◌, ◌≤◌}
use Rattle.std.proofs.Common.{sym, ◌∙◌, arith}
use Rattle.rules.specs.Laws.In.{true-not-false}
use Rattle.rules.specs.Laws.Cases.{by_eq, by_lt}

-- the test holds at none of the first i places
unfoldable pub Nowhere : (ℕ → Bool) → ℕ → Type 0
Nowhere test i = (j : ℕ) → j < i → test j ≡ false

pub record First (test : ℕ → Bool) (n r : ℕ) : Type 0 where
  pub most : r ≤ n
  pub before : Nowhere test r
  pub here : r < n → test r ≡ true

-- the same, where a search answers with no number if it holds nowhere
abbrev pub FirstIn : (ℕ → Bool) → ℕ → Option ℕ → Type 0
FirstIn test n r = MatchOption r (First test n n) (λ k. (k < n) × First test n k)

module _ (test : ℕ → Bool) where
  pub nowhere-none : Nowhere test 0
  unfolding Nowhere
  nowhere-none j h = absurd (omega arith)

  pub nowhere-more : {t : Bool} (i : ℕ) → Nowhere test i → t ≡ test i → t ≡ false → Nowhere test (i + 1)
  unfolding Nowhere
  nowhere-more i q e f j h = by_eq j i (λ d. rw d (sym e ∙ f)) (λ d. q j (omega arith))

  pub first_found : {t : Bool} (n i : ℕ) → Nowhere test i → i < n → t ≡ test i → t ≡ true → First test n i
  first_found n i q h e f = record { most = omega arith; before = q; here = λ p. sym e ∙ f }

  pub first-none : (n i : ℕ) → Nowhere test i → n ≤ i → First test n n
  unfolding Nowhere
  first-none n i q h = record { most = omega arith; before = λ j p. q j (omega arith); here = λ p. absurd (omega arith) }

  -- two numbers that the contract allows are the same
  pub first-unique : (n r s : ℕ) → First test n r → First test n s → r ≡ s
  unfolding Nowhere
  first-unique n r s f g =
      by_lt r s (λ h. true-not-false (f.here (omega (arith, g.most))) (g.before r h))
      (λ h. by_lt s r (λ k. true-not-false (g.here (omega (arith, f.most))) (f.before s k)) (λ k. omega arith))

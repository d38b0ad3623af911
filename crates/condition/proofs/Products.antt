-- A turn of a loop that adds up products of a coefficient and a value: the product is within 100 * 1,000,000, so neither it nor the sum wraps.
use Rattle.std.proofs.Common.{◌≡◌, ◌∙◌, sym, subst, arith, ℕ, ◌+◌, ◌<◌, ℤ, ◌+ℤ◌, ◌*ℤ◌, SFits, to_z, of_z, w64}
use Rattle.rules.specs.Limits.{coefficient_most, value_most}
use Rattle.rules.specs.Laws.Bounds.{Within, in-add, within_more}
use Rattle.integers.specs.Machine.{Holds, is, held, mul-fits, mul-held, in-fits, back}
use Rattle.integers.specs.Sums.{sum, sum-next}

module _ {x y : ℤ} (p : Within coefficient_most x) (q : Within value_most y) where
  pub product-fits : SFits w64 (to_z w64 (of_z w64 x) *ℤ to_z w64 (of_z w64 y))
  product-fits = mul-fits (held p (omega arith)) (held q (omega arith)) (omega arith)

  product : Holds 100_000_000 (x *ℤ y) (of_z w64 (to_z w64 (of_z w64 x) *ℤ to_z w64 (of_z w64 y)))
  product = mul-held (held p (omega arith)) (held q (omega arith)) (omega arith)

  -- z is the sum so far
  module _ {n : ℕ} {z : ℤ} (w : Within n z) (small : n < 9_000_000_000_000_000_000) where
    added : Within (n + 100_000_000) (z +ℤ to_z w64 (of_z w64 (to_z w64 (of_z w64 x) *ℤ to_z w64 (of_z w64 y))))
    added = in-add w (subst (Within 100_000_000) (sym (is product)) product.within)

    pub added-fits : SFits w64 (z +ℤ to_z w64 (of_z w64 (to_z w64 (of_z w64 x) *ℤ to_z w64 (of_z w64 y))))
    added-fits = in-fits added (omega arith)

    back_again : to_z w64 (of_z w64 (z +ℤ to_z w64 (of_z w64 (to_z w64 (of_z w64 x) *ℤ to_z w64 (of_z w64 y))))) ≡ z +ℤ to_z w64 (of_z w64 (to_z w64 (of_z w64 x) *ℤ to_z w64 (of_z w64 y)))
    back_again = back _ added-fits.sfits

    pub added-within : {m : ℕ} → n + 100_000_000 ≡ m → Within m (to_z w64 (of_z w64 (z +ℤ to_z w64 (of_z w64 (to_z w64 (of_z w64 x) *ℤ to_z w64 (of_z w64 y))))))
    added-within e = within_more (subst (Within (n + 100_000_000)) (sym back_again) added) (omega (arith, e))

    pub added-is : (f : ℕ → ℤ) (i : ℕ) → f i ≡ x *ℤ y → z ≡ sum f i → to_z w64 (of_z w64 (z +ℤ to_z w64 (of_z w64 (to_z w64 (of_z w64 x) *ℤ to_z w64 (of_z w64 y))))) ≡ sum f (i + 1)
    added-is f i t e = back_again ∙ (λ k. e k +ℤ (is product ∙ sym t) k) ∙ sym (sum-next f i)

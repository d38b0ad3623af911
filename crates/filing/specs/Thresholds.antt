-- A threshold as one comparison: with n for the biased number of its key, which for < and ≤ is turned over, it holds of a value v if n * 2, or
-- n * 2 + 1 where it is strict, is at most v * 2.
use Rattle.std.specs.Prelude.{◌≡◌, ℕ, zero, suc, ◌+◌, ◌*◌, ◌-◌, ◌^◌, ◌<◌, ◌≤◌, ltb, leb, ℤ, pos, negsuc, neg_ℤ}
use Rattle.std.proofs.Common.{sym, ap, ◌∙◌, arith, ltb-true, ltb-false, leb-true, leb-false, le-leb}
use Rattle.std.proofs.lemmas.Bool.{lt-leb}
use Rattle.std.specs.Int.Signed.{lt_z, le_z}
use Rattle.rules.specs.Laws.In.{by_bool}
use Rattle.rules.specs.Laws.Bounds.{Within}
use Rattle.ranks.specs.Words.{key_room, biased}
use Rattle.ranks.specs.Biased.{biased-order}

same_test : (m n v w : ℕ) → (m ≤ n → v ≤ w) → (n < m → w < v) → leb m n ≡ leb v w
same_test m n v w f g = by_bool (leb m n)
    (λ t. t ∙ sym (le-leb v w (f (leb-true m n t))))
    (λ e. e ∙ sym (lt-leb v w (g (leb-false m n e))))

doubled : (a b : ℕ) → ltb a b ≡ leb (a * 2 + 1) (b * 2)
doubled a b = by_bool (ltb a b)
    (λ t. t ∙ sym (le-leb (a * 2 + 1) (b * 2) (omega (arith, ltb-true a b t))))
    (λ f. f ∙ sym (lt-leb (a * 2 + 1) (b * 2) (omega (arith, ltb-false a b f))))

-- ---- key below value
pub less : {x y : ℤ} → Within key_room x → Within key_room y → lt_z x y ≡ leb (biased x * 2 + 1) (biased y * 2)
less {x} {y} p q = biased-order p q ∙ doubled (biased x) (biased y)

pub at_most : {x y : ℤ} → Within key_room x → Within key_room y → le_z x y ≡ leb (biased x * 2 + 0) (biased y * 2)
at_most {x = pos a} {y = pos b} p q = same_test a b ((2 ^ 39 + a) * 2 + 0) ((2 ^ 39 + b) * 2) (λ h. omega arith) (λ h. omega arith)
at_most {x = pos a} {y = negsuc b} p q = sym (lt-leb ((2 ^ 39 + a) * 2 + 0) ((2 ^ 39 - suc b) * 2) (omega arith))
at_most {x = negsuc a} {y = pos b} p q = sym (le-leb ((2 ^ 39 - suc a) * 2 + 0) ((2 ^ 39 + b) * 2) (omega arith))
at_most {x = negsuc a} {y = negsuc b} p q = same_test b a ((2 ^ 39 - suc a) * 2 + 0) ((2 ^ 39 - suc b) * 2) (λ h. omega (arith, p.abs, q.abs)) (λ h. omega (arith, p.abs, q.abs))

-- ---- value below key: both turned over
biased-neg : (z : ℤ) → Within key_room z → biased (neg_ℤ z) + biased z ≡ 2 ^ 40
biased-neg (pos zero) p = omega arith
biased-neg (pos (suc n)) p = omega (arith, p.abs)
biased-neg (negsuc n) p = omega (arith, p.abs)

module _ {x y : ℤ} (p : Within key_room x) (q : Within key_room y) where
  pub less-turned : lt_z x y ≡ leb (biased (neg_ℤ y) * 2 + 1) (biased (neg_ℤ x) * 2)
  less-turned =
      let e = biased-neg x p in
      let f = biased-neg y q in
      less p q ∙ same_test (biased x * 2 + 1) (biased y * 2) (biased (neg_ℤ y) * 2 + 1) (biased (neg_ℤ x) * 2) (λ h. omega arith) (λ h. omega arith)

  pub at-most-turned : le_z x y ≡ leb (biased (neg_ℤ y) * 2 + 0) (biased (neg_ℤ x) * 2)
  at-most-turned =
      let e = biased-neg x p in
      let f = biased-neg y q in
      at_most p q ∙ same_test (biased x * 2 + 0) (biased y * 2) (biased (neg_ℤ y) * 2 + 0) (biased (neg_ℤ x) * 2) (λ h. omega arith) (λ h. omega arith)

-- ---- and one biased number is of one key
pub biased-same : (x y : ℤ) → Within key_room x → Within key_room y → biased x ≡ biased y → x ≡ y
biased-same (pos a) (pos b) p q e = ap pos (omega arith)
biased-same (pos a) (negsuc b) p q e = absurd (omega arith)
biased-same (negsuc a) (pos b) p q e = absurd (omega arith)
biased-same (negsuc a) (negsuc b) p q e = ap negsuc (omega (arith, p.abs, q.abs))

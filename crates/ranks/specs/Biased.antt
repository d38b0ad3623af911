-- Biased keys stand in the order of the keys, and below 2 ^ 40: each is its key with one number added, which leaves none below 0.
use Rattle.std.specs.Prelude.{◌≡◌, ℕ, suc, ◌+◌, ◌-◌, ◌^◌, ◌<◌, ltb, ℤ, pos, negsuc, neg_ℤ}
use Rattle.std.proofs.Common.{sym, ◌∙◌, arith, ltb-true, ltb-false, lt-ltb, le-ltb}
use Rattle.std.specs.Int.Signed.{lt_z}
use Rattle.rules.specs.Laws.In.{by_bool}
use Rattle.rules.specs.Laws.Bounds.{Within, abs_neg}
use Rattle.ranks.specs.Words.{key_room, biased}

-- two numbers, and two that are as far apart
pub same-order : (m n v w : ℕ) → v + n ≡ w + m → ltb m n ≡ ltb v w
same-order m n v w e = by_bool (ltb m n)
    (λ t. t ∙ sym (lt-ltb v w (omega (arith, ltb-true m n t))))
    (λ f. f ∙ sym (le-ltb v w (omega (arith, ltb-false m n f))))

pub biased-order : {x y : ℤ} → Within key_room x → Within key_room y → lt_z x y ≡ ltb (biased x) (biased y)
biased-order {x = pos a} {y = pos b} p q = same-order a b (2 ^ 39 + a) (2 ^ 39 + b) (omega arith)
biased-order {x = pos a} {y = negsuc b} p q = sym (le-ltb (2 ^ 39 + a) (2 ^ 39 - suc b) (omega arith))
biased-order {x = negsuc a} {y = pos b} p q = sym (lt-ltb (2 ^ 39 - suc a) (2 ^ 39 + b) (omega arith))
biased-order {x = negsuc a} {y = negsuc b} p q = same-order b a (2 ^ 39 - suc a) (2 ^ 39 - suc b) (omega (arith, p.abs, q.abs))

pub biased-below : {z : ℤ} → Within key_room z → biased z < 2 ^ 40
biased-below {z = pos n} p = omega (arith, p.abs)
biased-below {z = negsuc n} p = omega arith

pub within-neg : {n : ℕ} {z : ℤ} → Within n z → Within n (neg_ℤ z)
within-neg {z = z} p = record { abs = omega (arith, abs_neg z, p.abs) }

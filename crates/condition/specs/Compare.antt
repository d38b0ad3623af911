-- An operator that is none of the six holds of nothing.
use Rattle.std.specs.Prelude.{◌≡◌, refl, Bool, false, ℕ, zero, suc, ℤ}
use Rattle.std.proofs.Common.{◌∙◌}
use Rattle.rules.specs.Condition.{compares}

pub no-operator : (operator : ℕ) (x k : ℤ) → (operator ≡ 1 → ⊥) → (operator ≡ 2 → ⊥) → (operator ≡ 3 → ⊥) → (operator ≡ 4 → ⊥) → (operator ≡ 5 → ⊥) → (operator ≡ 6 → ⊥) → false ≡ compares operator x k
no-operator zero x k a b c d e f = refl
no-operator (suc zero) x k a b c d e f = absurd (a refl)
no-operator (suc (suc zero)) x k a b c d e f = absurd (b refl)
no-operator (suc (suc (suc zero))) x k a b c d e f = absurd (c refl)
no-operator (suc (suc (suc (suc zero)))) x k a b c d e f = absurd (d refl)
no-operator (suc (suc (suc (suc (suc zero))))) x k a b c d e f = absurd (e refl)
no-operator (suc (suc (suc (suc (suc (suc zero)))))) x k a b c d e f = absurd (f refl)
no-operator (suc (suc (suc (suc (suc (suc (suc n))))))) x k a b c d e f = refl

-- the machine's numbers y and l stand for x and k
pub compared : (operator : ℕ) {b : Bool} {x y k l : ℤ} → b ≡ compares operator y l → y ≡ x → l ≡ k → b ≡ compares operator x k
compared operator e p q = e ∙ (λ i. compares operator (p i) (q i))

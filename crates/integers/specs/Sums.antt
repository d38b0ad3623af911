-- Sums of signed numbers, as a loop adds them up: the first n values of a function, each at most N from 0.
use Rattle.std.specs.Prelude.{◌≡◌, refl, ℕ, zero, suc, ◌+◌, ◌*◌, ◌<◌, ℤ, pos, ◌+ℤ◌}
use Rattle.std.proofs.Common.{sym, ap, ◌∙◌, add-one, arith, to_z, of_z}
use Rattle.std.proofs.Math.IntN.{+ℤ_assoc, +ℤ_idl, +ℤ_idr}
use Rattle.std.specs.Int.{w64}
use Rattle.integers.specs.Machine.{Holds, held-nat, holds_as, add-held}

unfoldable pub sum : (ℕ → ℤ) → ℕ → ℤ
sum f zero = pos 0
sum f (suc n) = sum f n +ℤ f n

pub sum-next : (f : ℕ → ℤ) (n : ℕ) → sum f (n + 1) ≡ sum f n +ℤ f n
unfolding sum
sum-next f n = rw add-one

-- the start and the turn of such a loop
pub sum-start : (f : ℕ → ℤ) (N : ℕ) → Holds (N * 0) (sum f 0) 0
unfolding sum
sum-start f N = holds_as (held-nat 0 (omega arith)) refl (omega arith)

pub sum-turn : {s t i N : ℕ} (f : ℕ → ℤ) → Holds (N * i) (sum f i) s → Holds N (f i) t → N * i + N < 9223372036854775808 → Holds (N * (i + 1)) (sum f (i + 1)) (of_z w64 (to_z w64 s +ℤ to_z w64 t))
sum-turn {i = i} {N = N} f p q l = holds_as (add-held p q l) (sym (sum-next f i)) (omega arith)

-- the first apart from the others
pub sum-front : (f : ℕ → ℤ) (n : ℕ) → sum f (suc n) ≡ f 0 +ℤ sum (λ k. f (suc k)) n
unfolding sum
sum-front f zero = +ℤ_idl (f 0) ∙ sym (+ℤ_idr (f 0))
sum-front f (suc n) = ap (λ z. z +ℤ f (suc n)) (sum-front f n) ∙ +ℤ_assoc (f 0) (sum (λ k. f (suc k)) n) (f (suc n))

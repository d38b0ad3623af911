-- How far from 0 the number is that n stands for: half of n, rounded up. So a range is judged before the sign is made. And a signed number in the machine, by its
-- sign: which half of a number it is.
use mathlib.Core.Path.{◌≡◌, refl, sym, ap, ◌∙◌}
use Rattle.std.specs.Prelude.{Bool, true, false, eqb, ℤ, pos, negsuc, nat_abs, ◌-ℤ◌, if◌then◌else◌}
use Prim.Native.Nat.{ℕ, suc, ◌+◌, ◌-◌, ◌*◌, ◌/◌, ◌%◌, ◌<◌}
use Rattle.std.proofs.Common.{arith, SFits, to_z, of_z, eqb-true, le-ltb}
use Rattle.std.specs.Int.Signed.{lt_z}
use Rattle.std.specs.Int.{w64}
use Rattle.integers.specs.Machine.{back}
use Rattle.rules.specs.Writer.{unsigned}
use Rattle.std.proofs.lemmas.Bool.{eqb-false}
use Rattle.rules.specs.Number.{signed}

pub size_of : (n : ℕ) → nat_abs (signed n) ≡ (n + 1) / 2
size_of n = go (eqb (n % 2) 0) (mathlib.Core.Path.refl)
  where
    odd : eqb (n % 2) 0 ≡ false → Prim.Native.Nat.suc (n / 2) ≡ (n + 1) / 2
    odd e = omega (arith, eqb-false (n % 2) 0 e)

    go : (t : Bool) → eqb (n % 2) 0 ≡ t → nat_abs (if t then pos (n / 2) else negsuc (n / 2)) ≡ (n + 1) / 2
    go true e = omega (arith, eqb-true (n % 2) 0 e)
    go false e = odd e

pub unsigned-size : (z : ℤ) → unsigned z / 2 + unsigned z % 2 ≡ nat_abs z
unsigned-size (pos n) = omega arith
unsigned-size (negsuc n) = omega arith

-- ---- below zero: −1 − z is n, where z = −n − 1
pub record Below (z : ℤ) : Type 0 where
  pub half : ℕ
  pub number : half * 2 + 1 ≡ unsigned z
  pub small : half < 9223372036854775808
  pub value : negsuc 0 -ℤ to_z w64 (of_z w64 z) ≡ pos half
  pub stored : to_z w64 (of_z w64 (negsuc 0 -ℤ to_z w64 (of_z w64 z))) ≡ pos half

pub record Above (z : ℤ) : Type 0 where
  pub half : ℕ
  pub number : half * 2 ≡ unsigned z
  pub small : half < 9223372036854775808
  pub value : to_z w64 (of_z w64 z) ≡ pos half

less_one : (n : ℕ) → negsuc 0 -ℤ negsuc n ≡ pos n
less_one n = let e : suc n - 1 ≡ n = omega arith in rw (le-ltb (suc n) 1 (omega arith)) (ap pos e)

no : true ≡ false → ⊥
no e = let z : ◌≡◌ {A = ℕ} 0 1 = cc in omega arith

below-here : (z : ℤ) → SFits w64 z → lt_z z (pos 0) ≡ true → Below z
below-here (pos n) f e = absurd (no (sym e ∙ le-ltb n 0 (omega arith)))
below-here (negsuc n) f e =
    let v : negsuc 0 -ℤ to_z w64 (of_z w64 (negsuc n)) ≡ pos n = ap (λ y. negsuc 0 -ℤ y) (back (negsuc n) f.sfits) ∙ less_one n in
    record { half = n; number = omega arith; small = f.sfits; value = v; stored = ap (λ y. to_z w64 (of_z w64 y)) v ∙ back (pos n) f.sfits }

above-here : (z : ℤ) → SFits w64 z → lt_z z (pos 0) ≡ false → Above z
above-here (pos n) f e = record { half = n; number = omega arith; small = f.sfits; value = back (pos n) f.sfits }
above-here (negsuc n) f e = absurd (no e)

-- by the machine's test
pub below : (z : ℤ) → SFits w64 z → lt_z (to_z w64 (of_z w64 z)) (pos 0) ≡ true → Below z
below z f e = below-here z f (ap (λ y. lt_z y (pos 0)) (sym (back z f.sfits)) ∙ e)

pub above : (z : ℤ) → SFits w64 z → lt_z (to_z w64 (of_z w64 z)) (pos 0) ≡ false → Above z
above z f e = above-here z f (ap (λ y. lt_z y (pos 0)) (sym (back z f.sfits)) ∙ e)

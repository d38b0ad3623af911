-- What the code makes of a key, 2 ^ 39 + key or 2 ^ 39 − key as an unsigned number, is the biased key: the sum is not below 0.
use Rattle.std.specs.Prelude.{◌≡◌, refl, ℕ, suc, ◌^◌, T, ℤ, pos, negsuc, neg_ℤ, nat_abs, ◌+ℤ◌, ◌-ℤ◌}
use Rattle.std.proofs.Common.{sym, ap, subst, arith, le-ltb, lit<, lit≤, Fits, SFits, to_z, of_z}
use Rattle.std.specs.Int.Signed.{non_neg}
use Rattle.std.specs.Int.{w64}
use Rattle.rules.specs.Laws.Bounds.{Within}
use Rattle.integers.specs.Machine.{Holds, is, held, held-nat, holds_as, add-fits, add-held, sub-fits, sub_held}
use Rattle.ranks.specs.Words.{key_room, biased}
use Rattle.ranks.specs.Biased.{within-neg}

-- `as u64` of an i64 that is not below 0
module _ {m n b : ℕ} (p : Holds n (pos m) b) where
  pub cast_fits : T (non_neg (to_z w64 b)) × Fits w64 (nat_abs (to_z w64 b))
  cast_fits = subst (λ z. T (non_neg z) × Fits w64 (nat_abs z)) (sym (is p)) (tt, record { fits = omega (arith, p.fits.sfits) })

  pub cast_is : nat_abs (to_z w64 b) ≡ m
  cast_is = ap nat_abs (is p)

raised : {z : ℤ} → Within key_room z → pos (2 ^ 39) +ℤ z ≡ pos (biased z)
raised {z = pos n} p = refl
raised {z = negsuc n} p = rw (le-ltb (2 ^ 39) (suc n) (omega (arith, p.abs)))

bias : Holds (2 ^ 39) (pos (2 ^ 39)) (2 ^ 39)
bias = held-nat (2 ^ 39) (lit< tt)

module _ {key : ℤ} (p : Within key_room key) where
  pub sum_fits : SFits w64 (pos (2 ^ 39) +ℤ to_z w64 (of_z w64 key))
  sum_fits = add-fits bias (held p (lit< tt)) (lit< tt)

  pub sum-held : Holds (2 ^ 40) (pos (biased key)) (of_z w64 (pos (2 ^ 39) +ℤ to_z w64 (of_z w64 key)))
  sum-held = holds_as (add-held bias (held p (lit< tt)) (lit< tt)) (raised p) (lit≤ tt)

  pub difference-fits : SFits w64 (pos (2 ^ 39) -ℤ to_z w64 (of_z w64 key))
  difference-fits = sub-fits bias (held p (lit< tt)) (lit< tt)

  pub difference-held : Holds (2 ^ 40) (pos (biased (neg_ℤ key))) (of_z w64 (pos (2 ^ 39) -ℤ to_z w64 (of_z w64 key)))
  difference-held = holds_as (sub_held bias (held p (lit< tt)) (lit< tt)) (raised (within-neg p)) (lit≤ tt)

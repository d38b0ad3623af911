-- The value of a measure in its slots: the coefficients of measure m stand from slot 8 * m on.
use Rattle.std.specs.Prelude.{◌≡◌, List, [], ◌∷◌, ℕ, zero, suc, ◌+◌, ◌*◌, ◌<◌, ◌≤◌, ℤ, pos, ◌*ℤ◌, get_or}
use Rattle.std.proofs.Math.Path.{sym, ap}
use Rattle.std.proofs.Common.{◌∙◌, add-zero}
use native.Mathlib.Omega.{arith}
use Rattle.std.proofs.Math.ListN.{get_or-eq_default}
use Rattle.rules.specs.Limits.{coefficient_most, value_most, key_most}
use Rattle.rules.specs.Laws.Bounds.{Within}
use Rattle.integers.specs.Sums.{sum}

-- each number is at most so far from 0; there is no other than 0 past the end
abbrev pub AllIn : ℕ → List ℤ → Type 0
AllIn most l = (k : ℕ) → Within most (get_or l k (pos 0))

-- what every room keeps to
pub record Ranges (cs vs ks : List ℤ) : Type 0 where
  pub coefficients : AllIn coefficient_most cs
  pub values : AllIn value_most vs
  pub keys : AllIn key_most ks

abbrev pub term : List ℤ → ℕ → List ℤ → ℕ → ℤ
term coefficients first values k = get_or coefficients (first + k) (pos 0) *ℤ get_or values k (pos 0)

abbrev pub measure_at : List ℤ → List ℤ → ℕ → ℤ
measure_at coefficients values m = sum (term coefficients (m * 8) values) 8

-- the values of all sixteen
abbrev pub measures_from : List ℤ → List ℤ → ℕ → ℕ → List ℤ
measures_from coefficients values zero m = []
measures_from coefficients values (suc n) m = measure_at coefficients values m ∷ measures_from coefficients values n (suc m)

unfoldable pub now_at : List ℤ → List ℤ → List ℤ
now_at coefficients values = measures_from coefficients values 16 0

module _ (coefficients values : List ℤ) where
  from_at : (n m k : ℕ) → k < n → get_or (measures_from coefficients values n m) k (pos 0) ≡ measure_at coefficients values (m + k)
  from_at zero m k h = absurd (omega arith)
  from_at (suc n) m zero h = ap (measure_at coefficients values) (sym (add-zero m))
  from_at (suc n) m (suc k) h = from_at n (suc m) k (omega arith) ∙ ap (measure_at coefficients values) e
    where
      e : suc m + k ≡ m + suc k
      e = omega arith

  pub now-at : (m : ℕ) → m < 16 → get_or (now_at coefficients values) m (pos 0) ≡ measure_at coefficients values m
  unfolding now_at
  now-at m h = from_at 16 0 m h ∙ ap (measure_at coefficients values) e
    where
      e : 0 + m ≡ m
      e = omega arith

  -- as the code has it
  pub now-read : {r : ℤ} (m : ℕ) → m < 16 → r ≡ measure_at coefficients values m → r ≡ get_or (now_at coefficients values) m (pos 0)
  now-read m h e = e ∙ sym (now-at m h)

  pub now-past : (m : ℕ) → 16 ≤ m → pos 0 ≡ get_or (now_at coefficients values) m (pos 0)
  unfolding now_at
  now-past m h = sym (get_or-eq_default (now_at coefficients values) (pos 0) h)

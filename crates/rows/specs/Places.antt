-- The place before another in a row; and in an ordered row no earlier place has a greater rank.
use Rattle.std.specs.Prelude.{◌≡◌, ℕ, zero, suc, ◌+◌, ◌-◌, ◌<◌, ◌≤◌}
use Rattle.std.proofs.Common.{ap, arith}
use Rattle.nodes.specs.Order.{Ordered}

abbrev pub previous : ℕ → ℕ
previous i = i - 1

pub previous-lt : (j : ℕ) → 0 < j → previous j < j
previous-lt j p = omega arith

steps : (v : ℕ → ℕ) (n i d : ℕ) → Ordered previous v n → i + d < n → v i ≤ v (i + d)
unfolding Ordered
steps v n i zero o h = omega (arith, ap v (none i))
  where
    none : (i : ℕ) → i + 0 ≡ i
    none i = omega arith
steps v n i (suc d) o h = omega (arith, steps v n i d o (omega arith), o (i + suc d) (omega arith) h, ap v (step i d))
  where
    step : (i d : ℕ) → previous (i + suc d) ≡ i + d
    step i d = omega arith

pub earlier-first : (v : ℕ → ℕ) (n i j : ℕ) → Ordered previous v n → i ≤ j → j < n → v i ≤ v j
earlier-first v n i j o h p = omega (arith, steps v n i (j - i) o (omega arith), ap v (back i j h))
  where
    back : (i j : ℕ) → i ≤ j → i + (j - i) ≡ j
    back i j h = omega arith

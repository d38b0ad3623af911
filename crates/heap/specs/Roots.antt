-- Nothing in a heap ranks before its root: from any place the way up leads there, and no rank on the way is greater than the one below it.
use Rattle.std.specs.Prelude.{◌≡◌, ℕ, zero, suc, ◌<◌, ◌≤◌}
use Rattle.std.proofs.Common.{ap, arith}
use Rattle.rules.specs.Laws.Cases.{by_eq}
use Rattle.nodes.specs.Order.{Ordered}
use Rattle.heap.specs.Places.{above}

up_to : (v : ℕ → ℕ) (n d j : ℕ) → Ordered above v n → j ≤ d → j < n → v 0 ≤ v j
unfolding Ordered
up_to v n zero j o h p = omega (arith, ap v (none j h))
  where
    none : (j : ℕ) → j ≤ 0 → j ≡ 0
    none j h = omega arith
up_to v n (suc d) j o h p = by_eq j 0 (λ e. omega (arith, ap v e)) (λ e. omega (arith, up_to v n d (above j) o (omega arith) (omega arith), o j (omega arith) p))

pub root-first : (v : ℕ → ℕ) (n j : ℕ) → Ordered above v n → j < n → v 0 ≤ v j
root-first v n j o p = up_to v n j j o (omega arith) p

-- The place above another in a heap.
use Rattle.std.specs.Prelude.{ℕ, ◌-◌, ◌/◌, ◌<◌}
use Rattle.std.proofs.Common.{arith}

abbrev pub above : ℕ → ℕ
above i = (i - 1) / 2

pub above-lt : (j : ℕ) → 0 < j → above j < j
above-lt j p = omega arith

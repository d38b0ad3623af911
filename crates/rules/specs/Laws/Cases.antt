-- Two numbers are the same or not, and one is less than the other or not: a proof may go on by either.
use Rattle.std.specs.Prelude.{◌≡◌, ℕ, ◌<◌, ◌≤◌}
use Rattle.std.proofs.Common.{arith}
use Rattle.std.proofs.Math.Decide.{ℕ_discrete, dec_lt}

pub by_eq : {C : Type 0} (a b : ℕ) → (a ≡ b → C) → ((a ≡ b → ⊥) → C) → C
by_eq {C} a b f g = go (ℕ_discrete a b)
  where
    go : Dec (a ≡ b) → C
    go (yes e) = f e
    go (no e) = g e

pub by_lt : {C : Type 0} (a b : ℕ) → (a < b → C) → (b ≤ a → C) → C
by_lt {C} a b f g = go (dec_lt a b)
  where
    go : Dec (a < b) → C
    go (yes e) = f e
    go (no e) = g (omega arith)

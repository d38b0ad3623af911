-- What the calls for the parts of a stretch tell: each a walk over its part, and each a count of at most a home's nodes.
use Rattle.std.specs.Prelude.{◌≡◌, Bool, List, ℕ, ◌<◌, ◌≤◌}
use Rattle.walk.specs.declared.Walk.{Walk}
use Rattle.walk.specs.Walks.{walked}
use Rattle.search.specs.Stretches.{count_of}

abbrev pub Tells : (ℕ → Walk → Type 0) → (ℕ → Bool) → (ℕ → List ℕ) → ℕ → Type 0
Tells told test parts n = (i : ℕ) (walk : Walk) → i < n → told i walk → walk ≡ walked test (parts i)

abbrev pub Few : (ℕ → Walk → Type 0) → ℕ → Type 0
Few told n = (i : ℕ) (walk : Walk) → i < n → told i walk → count_of walk ≤ 128

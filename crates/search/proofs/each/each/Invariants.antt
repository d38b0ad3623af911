-- `each` meets its contract: what is left of the parts leads to the walk that is promised.
use Rattle.std.proofs.Common.{◌≡◌, ℕ, Bool, List, ◌*◌, ◌≤◌}
use Rattle.walk.specs.Walks.{walked}
use Rattle.search.specs.Stretches.{lists, lists_left}
use Rattle.search.specs.Each.{Tells}
use Rattle.search.proofs.each.each.Given as goal

abbrev pub invariant-loop-i : goal.invariant-loop-i
invariant-loop-i g l =
    (l.evaluated ≤ l.i * 128)
    × ((test : ℕ → Bool) (parts : ℕ → List ℕ) → Tells (goal.F-post g l.part) test parts l.n →
    lists_left test parts l.n l.evaluated l.i ≡ walked test (lists parts l.n 0))

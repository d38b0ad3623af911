-- Demand 2: a search calls a job only if its condition is true, and nobody exactly if no waiting job's condition is true.
-- The pair found is in the list of true pairs, and a true condition has a true alternative, whose pair is in that list.
use Rattle.std.specs.Prelude.{◌≡◌, Bool, false, List, ℕ, ℤ}
use Rattle.std.proofs.Math.Option.{Option}
use Rattle.rules.specs.Condition.{Condition, alternative_true, condition_true}
use Rattle.rules.specs.Room.{Room, waiting, standing, now}
use Rattle.rules.specs.Search.{Pair, found}
use Rattle.rules.specs.Laws.Waiting.{waiters_of}

abbrev pub is_true : List ℤ → Pair → Bool
is_true now p = alternative_true now p.alternative

-- what a search of a room finds
abbrev pub found_in : Room → Option Pair
found_in r = found (now r) (waiters_of r)

-- nobody is found exactly if no waiting job's condition is true
abbrev pub NoneTrue : Room → Type 0
NoneTrue r = (j t : ℕ) (c : Condition) → standing r j ≡ waiting c t → condition_true (now r) c ≡ false

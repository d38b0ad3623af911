-- Demand 3, first sentence: between events, if nobody is inside and some waiting job's condition is true, then a job already
-- called has a true condition too. Only Leave, a Wait that waits and an Admit that sends back empty the room, and each makes a
-- search: it calls a true job if there is one. While somebody is inside the sentence says nothing.
use Rattle.std.specs.Prelude.{◌≡◌, true, ℕ}
use Rattle.rules.specs.Condition.{Condition, condition_true}
use Rattle.rules.specs.Room.{Room, waiting, called, standing, now}
use Rattle.rules.specs.Laws.Moves.{NobodyInside}

-- a job that is called and whose condition is true
pub record CalledTrue (r : Room) : Type 0 where
  pub job : ℕ
  pub ticket : ℕ
  pub condition : Condition
  pub stands : standing r job ≡ called condition ticket
  pub holds : condition_true (now r) condition ≡ true

abbrev pub Relay : Room → Type 0
Relay r = NobodyInside r → (k t : ℕ) (c : Condition) → standing r k ≡ waiting c t → condition_true (now r) c ≡ true → CalledTrue r

-- "Which job a search calls", and the evaluated count: every pair of a waiting job and an alternative is looked at.
use Rattle.std.specs.Prelude.{Bool, true, not, ◌&&◌, List, [], ◌∷◌, ◌++◌, ℕ, suc, ltb, length, ℤ, if◌then◌else◌}
use Rattle.std.proofs.Math.Option.{Option, none, some}
use Rattle.rules.specs.Base.{those, any, gather}
use Rattle.rules.specs.Condition.{Atom, Condition, alternative_true, identical}
use Rattle.rules.specs.Tag.{tag_holds}
use Rattle.rules.specs.Rank.{rank, before}
use Rattle.rules.specs.Room.{Standing, outside, door, inside, waiting, called}

-- a job that waits
pub record Waiter : Type 0 where
  pub job : ℕ
  pub condition : Condition
  pub ticket : ℕ

pub record Pair : Type 0 where
  pub waiter : Waiter
  pub alternative : List Atom
  pub rank : List ℤ

-- nobody, or the job that waits
abbrev pub waiter : ℕ → Standing → List Waiter
waiter j (waiting c t) = record { job = j; condition = c; ticket = t } ∷ []
waiter j (called c t) = []
waiter j outside = []
waiter j door = []
waiter j inside = []

-- the jobs that wait, of those that stand so from job j on
abbrev pub waiters : ℕ → List Standing → List Waiter
waiters j [] = []
waiters j (s ∷ l) = waiter j s ++ waiters (suc j) l

-- a job with each of its alternatives, from this place on
abbrev pub pairs_of : Waiter → ℕ → Condition → List Pair
pairs_of w place [] = []
pairs_of w place (a ∷ l) = record { waiter = w; alternative = a; rank = rank a w.ticket place } ∷ pairs_of w (suc place) l

abbrev pub pairs : List Waiter → List Pair
pairs = gather (λ w. pairs_of w 0 w.condition)

abbrev pub lesser : Pair → Option Pair → Option Pair
lesser p none = some p
lesser p (some q) = if before q.rank p.rank then some q else some p

abbrev pub least : List Pair → Option Pair
least [] = none
least (p ∷ l) = lesser p (least l)

-- an older waiting job has the same condition
abbrev pub follows : List Waiter → Waiter → Bool
follows ws w = any (λ v. identical v.condition w.condition && ltb v.ticket w.ticket) ws

-- the oldest waiting job of each distinct condition
abbrev pub oldest : List Waiter → List Waiter
oldest ws = those (λ w. not (follows ws w)) ws

-- not after the pair that was found; any, if none was
abbrev pub not_after : Option Pair → Pair → Bool
not_after none p = true
not_after (some f) p = not (before f.rank p.rank)

-- over the values of the measures and the jobs that wait
module _ (now : List ℤ) (ws : List Waiter) where
  -- the least of the pairs that are true
  abbrev pub found : Option Pair
  found = least (those (λ p. alternative_true now p.alternative) (pairs ws))

  -- of the distinct conditions' alternatives, at their oldest job's rank, those whose tag holds and that are not after it
  abbrev pub evaluated : ℕ
  evaluated = length (those (λ p. tag_holds now p.alternative && not_after found p) (pairs (oldest ws)))

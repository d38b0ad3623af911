-- Demands 2 and 3: which events make a search, and what those and the others report. A search reports the job found and the evaluated
-- count over the jobs that wait when it begins; an event without one reports no call and count 0.
use Rattle.std.specs.Prelude.{◌≡◌, true, false, List, ℕ, ◌<◌, ℤ}
use Rattle.std.proofs.Math.Option.{Option}
use Rattle.rules.specs.Limits.{tickets}
use Rattle.rules.specs.Condition.{Given, Condition, closure, condition_true}
use Rattle.rules.specs.Room.{Room, inside, waiting, called, standing, now}
use Rattle.rules.specs.Step.{Event, admit, wait, leave, called_in, count_in, occupied, step}

-- a called job that is admitted and whose condition is false; a Wait that is false while a ticket is left; a Leave
pub data Searches (r : Room) : Event → Type 0 where
  at-admit : {j t : ℕ} {c : Condition} → standing r j ≡ called c t → occupied r ≡ false → condition_true (now r) c ≡ false → Searches r (admit j)
  at-wait : {j : ℕ} {l : List ℤ} {g : List (List Given)} → standing r j ≡ inside → condition_true (now r) (closure l g) ≡ false → r.next_ticket < tickets → Searches r (wait j l g)
  at-leave : {j : ℕ} → standing r j ≡ inside → Searches r (leave j)

-- the job called and the count that an event reports
abbrev pub ReportsSearch : Room → Event → Option ℕ → ℕ → Type 0
ReportsSearch r e j n = (called_in (step r e).report ≡ j) × (count_in (step r e).report ≡ n)

-- the job that an event calls waited for a condition that is true, and now stands called
pub record CalledTruly (r q : Room) (j : ℕ) : Type 0 where
  pub condition : Condition
  pub ticket : ℕ
  pub waited : standing r j ≡ waiting condition ticket
  pub holds : condition_true (now r) condition ≡ true
  pub stands : standing q j ≡ called condition ticket

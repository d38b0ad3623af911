-- "Standings and events": the five events, one at a time, with refusals 5 to 7.
use Rattle.std.specs.Prelude.{Bool, List, ℕ, leb, ℤ, if◌then◌else◌}
use Rattle.std.proofs.Math.Option.{Option, none, some}
use Rattle.rules.specs.Base.{any}
use Rattle.rules.specs.Limits.{tickets}
use Rattle.rules.specs.Condition.{Given, Condition, closure, condition_true}
use Rattle.rules.specs.Room.{Room, Standing, outside, door, inside, waiting, called, standing, now, is_inside, is_outside, stand, store, give_ticket}
use Rattle.rules.specs.Search.{Pair, waiters, found, evaluated}

-- a Set (`assign`) names variable and value; a Wait the local values and the condition as it is given
pub data Event : Type 0 where
  arrive admit leave : ℕ → Event
  assign : ℕ → ℕ → ℤ → Event
  wait : ℕ → List ℤ → List (List Given) → Event

-- `enters` is printed as `in`
pub data Outcome : Type 0 where
  done enters waits on back : Outcome

-- an accepted event's outcome, the job called and the evaluated count; a refusal; that no event is left
pub data Report : Type 0 where
  accepted : Outcome → Option ℕ → ℕ → Report
  refusal : ℕ → Report
  nothing : Report

-- the numbers of each case: a refusal, and that none is left, report no call and count 0
abbrev pub called_in : Report → Option ℕ
called_in (accepted o j n) = j
called_in (refusal k) = none
called_in nothing = none

abbrev pub count_in : Report → ℕ
count_in (accepted o j n) = n
count_in (refusal k) = 0
count_in nothing = 0

pub record Step : Type 0 where
  pub room : Room
  pub report : Report

abbrev pub refuse : Room → ℕ → Step
refuse r n = record { room = r; report = refusal n }

-- an event without a search
abbrev pub plain : Outcome → Room → Step
plain o r = record { room = r; report = accepted o none 0 }

-- the job of the pair that was found goes from waiting to called
abbrev pub call : Option Pair → Room → Room
call none r = r
call (some p) r = stand p.waiter.job (called p.waiter.condition p.waiter.ticket) r

abbrev pub job_of : Option Pair → Option ℕ
job_of none = none
job_of (some p) = some p.waiter.job

-- a search over those that wait before job j joins them; then j stands as s
abbrev pub searched : Outcome → ℕ → Standing → Room → Step
searched o j s r =
    let ws = waiters 0 r.standings in
    let f = found (now r) ws in
    record { room = stand j s (call f r); report = accepted o (job_of f) (evaluated (now r) ws) }

abbrev pub occupied : Room → Bool
occupied r = any is_inside r.standings

-- Admit: needs door or called (5), and nobody inside (6)
abbrev pub admitted : ℕ → Standing → Room → Step
admitted j outside r = refuse r 5
admitted j inside r = refuse r 5
admitted j (waiting c t) r = refuse r 5
admitted j door r = if occupied r then refuse r 6 else plain enters (stand j inside r)
admitted j (called c t) r =
    if occupied r then refuse r 6
    else if condition_true (now r) c then plain enters (stand j inside r)
    else searched back j (waiting c t) r

-- Wait of the job inside, with its condition closed
abbrev pub waited : ℕ → Condition → Room → Step
waited j c r =
    if condition_true (now r) c then plain on r
    else if leb tickets r.next_ticket then refuse r 7
    else searched waits j (waiting c r.next_ticket) (give_ticket r)

abbrev pub needs : Bool → Room → Step → Step
needs b r s = if b then s else refuse r 5

abbrev pub step : Room → Event → Step
step r (arrive j) = needs (is_outside (standing r j)) r (plain done (stand j door r))
step r (admit j) = admitted j (standing r j) r
step r (assign j v x) = needs (is_inside (standing r j)) r (plain done (store v x r))
step r (wait j locals given) = needs (is_inside (standing r j)) r (waited j (closure locals given) r)
step r (leave j) = needs (is_inside (standing r j)) r (searched done j outside r)

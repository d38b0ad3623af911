-- The tally, and an event taken from bytes: what a host sees.
use Rattle.std.specs.Prelude.{List, [], ◌∷◌, ℕ, ◌+◌, min, max, length}
use Rattle.std.proofs.Math.Option.{Option, none, some}
use Rattle.rules.specs.Limits.{tally_most}
use Rattle.rules.specs.Number.{Read, read, refused}
use Rattle.rules.specs.Room.{Room}
use Rattle.rules.specs.Step.{Step, Event, Outcome, done, enters, waits, on, back, Report, accepted, refusal, nothing, refuse, step}
use Rattle.rules.specs.Record.{event}

-- accepted events, calls, alternatives evaluated, jobs sent back
pub record Tally : Type 0 where
  pub events : ℕ
  pub calls : ℕ
  pub evaluated : ℕ
  pub sent_back : ℕ

-- at most the ceiling; a count above it, from the host, stays as it is
abbrev pub plus : ℕ → ℕ → ℕ
plus count n = max count (min tally_most (count + n))

abbrev pub ones : Option ℕ → ℕ
ones none = 0
ones (some j) = 1

abbrev pub backs : Outcome → ℕ
backs done = 0
backs enters = 0
backs waits = 0
backs on = 0
backs back = 1

abbrev pub note : Report → Tally → Tally
note (refusal n) t = t
note nothing t = t
note (accepted o calls count) t = record {
  events = plus t.events 1;
  calls = plus t.calls (ones calls);
  evaluated = plus t.evaluated count;
  sent_back = plus t.sent_back (backs o);
}

-- an event from bytes: its step, and the bytes that are left
pub record Taken : Type 0 where
  pub result : Step
  pub rest : List ℕ

-- refusals 1 to 4 take no bytes; what the step refuses (5 to 7) takes the record
abbrev pub taken : Room → List ℕ → Read Event → Taken
taken r bytes (read e rest) = record { result = step r e; rest = rest }
taken r bytes (refused n) = record { result = refuse r n; rest = bytes }

abbrev pub take : Room → List ℕ → Taken
take r [] = record { result = record { room = r; report = nothing }; rest = [] }
take r (b ∷ bytes) = taken r (b ∷ bytes) (event (length r.measures) (b ∷ bytes))

-- A tally after one accepted event more, field by field. It is the rules' tally by definition, since each count is the rules' `plus`.
use Rattle.std.specs.Prelude.{ℕ, ◌≡◌, refl}
use Rattle.std.proofs.Math.Option.{Option}
use Rattle.rules.specs.Step.{Outcome, accepted}
use Rattle.rules.specs.Tally.{Tally as Counts, plus, ones, backs, note}
use Rattle.tally.specs.declared.Tally.{Tally}

abbrev pub added_tally : Tally → ℕ → ℕ → ℕ → Tally
added_tally t calls evaluated sent_back = record {
  events = plus t.events 1;
  calls = plus t.calls calls;
  evaluated = plus t.evaluated evaluated;
  sent_back = plus t.sent_back sent_back;
}

-- what a host's four numbers mean to the rules
abbrev pub tally_of : Tally → Counts
tally_of t = record { events = t.events; calls = t.calls; evaluated = t.evaluated; sent_back = t.sent_back }

-- so what the rules say of a tally determines the four numbers
pub tally_of-one : (s t : Tally) → tally_of s ≡ tally_of t → s ≡ t
tally_of-one s t e = λ i. record { events = (e i).events; calls = (e i).calls; evaluated = (e i).evaluated; sent_back = (e i).sent_back }

pub added-is-note : (t : Tally) (o : Outcome) (called : Option ℕ) (count : ℕ) → tally_of (added_tally t (ones called) count (backs o)) ≡ note (accepted o called count) (tally_of t)
added-is-note t o called count = refl

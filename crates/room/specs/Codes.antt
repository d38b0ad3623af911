-- The numbers that the report of C has for an outcome, and for a called job, with 32 for nobody.
use Rattle.std.specs.Prelude.{◌≡◌, refl, ℕ, zero, suc, ◌<◌, ◌≤◌, eqb, ltb, if◌then◌else◌}
use Rattle.std.proofs.Common.{arith, lt-ltb, le-ltb}
use Rattle.std.proofs.Math.Option.{Option, none, some}
use Rattle.rules.specs.Laws.Cases.{by_lt}
use Rattle.rules.specs.Step.{Outcome, done, enters, waits, on, back}

abbrev pub outcome_at : ℕ → Outcome
outcome_at code = if eqb code 1 then enters else if eqb code 2 then waits else if eqb code 3 then on else if eqb code 4 then back else done

abbrev pub outcome_code : Outcome → ℕ
outcome_code done = 0
outcome_code enters = 1
outcome_code waits = 2
outcome_code on = 3
outcome_code back = 4

abbrev pub job_at : ℕ → Option ℕ
job_at job = if ltb job 32 then some job else none

abbrev pub job_code : Option ℕ → ℕ
job_code (some job) = job
job_code none = 32

pub outcome-coded : (code : ℕ) → code ≤ 4 → outcome_code (outcome_at code) ≡ code
outcome-coded zero h = refl
outcome-coded (suc zero) h = refl
outcome-coded (suc (suc zero)) h = refl
outcome-coded (suc (suc (suc zero))) h = refl
outcome-coded (suc (suc (suc (suc zero)))) h = refl
outcome-coded (suc (suc (suc (suc (suc n))))) h = absurd (omega arith)

pub code-outcome : (o : Outcome) → outcome_at (outcome_code o) ≡ o
code-outcome done = refl
code-outcome enters = refl
code-outcome waits = refl
code-outcome on = refl
code-outcome back = refl

pub code-job : (job : ℕ) → job < 32 → job_at job ≡ some job
code-job job l = rw (lt-ltb job 32 l) refl

pub job-coded : (job : ℕ) → job ≤ 32 → job_code (job_at job) ≡ job
job-coded job h = by_lt job 32 (λ l. rw (lt-ltb job 32 l) refl) (λ l. rw (le-ltb job 32 l) (omega arith))

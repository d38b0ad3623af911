-- Document 01's report for each case of the code's.
use Rattle.std.specs.Prelude.{◌≡◌, refl, List, ℕ, ◌<◌, ℤ, Option, Some, None, Result, Ok, Err, MatchOption, ⊤}
use Rattle.std.proofs.Common.{sym, ap, ◌∙◌, arith}
use Rattle.std.proofs.Math.Option as math
use Rattle.std.proofs.Math.Option.{none, some}
use Rattle.rules.specs.Search.{Waiter, Pair, found, evaluated}
use Rattle.rules.specs.Step.{accepted, refusal, job_of, called_in}
use Rattle.rules.specs.Step as rules
use Rattle.fields.specs.Refusals.{refusal_number, same_number}
use Rattle.fields.specs.declared.refusal.Refusal.{Refusal}
use Rattle.condition.specs.Closing.{ClosedSlots}
use Rattle.search.specs.Pairs.{waiters_in}
use Rattle.search.specs.Answers.{answer_for, search_answer}
use Rattle.search.specs.declared.Answer.{Answer}
use Rattle.search.specs.declared.Answer.TheVariants.{Calls, Nobody}
use Rattle.room.specs.Calls.{found-one}
use Rattle.room.specs.Codes.{outcome_code}
use Rattle.room.specs.declared.report.Accepted.{Accepted}
use Rattle.room.specs.declared.report.Outcome.{Outcome}
use Rattle.room.specs.declared.report.Outcome.TheVariants.{Done, In, Waits, On, Back}

abbrev pub Report : Type 0
Report = Result Accepted Refusal

abbrev pub outcome_of : Outcome → rules.Outcome
outcome_of Done = rules.done
outcome_of In = rules.enters
outcome_of Waits = rules.waits
outcome_of On = rules.on
outcome_of Back = rules.back

abbrev pub outcome_number : Outcome → ℕ
outcome_number o = outcome_code (outcome_of o)

-- the job of the code's Option in that of the rules
abbrev pub job_in : Option ℕ → math.Option ℕ
job_in (Some job) = some job
job_in None = none

abbrev pub meaning : Report → rules.Report
meaning (Ok a) = accepted (outcome_of a.outcome) (job_in a.called) a.evaluated
meaning (Err e) = refusal (refusal_number e)

abbrev pub accepts : Outcome → Option ℕ → ℕ → Report
accepts outcome called count = Ok (record { outcome = outcome; called = called; evaluated = count })

-- the report of an event without a search
abbrev pub plain_report : Outcome → Report
plain_report outcome = accepts outcome None 0

abbrev pub search_report : Outcome → Answer → Report
search_report outcome (Calls job count) = accepts outcome (Some job) count
search_report outcome (Nobody count) = accepts outcome None count

-- ---- who is called is one of the 32 jobs
abbrev pub Plain : Report → Type 0
Plain (Ok a) = MatchOption a.called ⊤ (λ job. job < 32)
Plain (Err e) = Unit {0}

outcome-in : rules.Report → rules.Outcome
outcome-in (accepted o j n) = o
outcome-in (refusal k) = rules.done
outcome-in rules.nothing = rules.done

number_in : rules.Report → ℕ
number_in (accepted o j n) = n
number_in (refusal k) = k
number_in rules.nothing = 0

job_back : math.Option ℕ → Option ℕ
job_back (some job) = Some job
job_back none = None

job-again : (called : Option ℕ) → job_back (job_in called) ≡ called
unfolding job_back
job-again (Some job) = refl
job-again None = refl

outcome_back : rules.Outcome → Outcome
outcome_back rules.done = Done
outcome_back rules.enters = In
outcome_back rules.waits = Waits
outcome_back rules.on = On
outcome_back rules.back = Back

outcome-again : (o : Outcome) → outcome_back (outcome_of o) ≡ o
unfolding outcome_back
outcome-again Done = refl
outcome-again In = refl
outcome-again Waits = refl
outcome-again On = refl
outcome-again Back = refl

-- two reports that mean the same are the same
pub one-report : (r s : Report) → meaning r ≡ meaning s → r ≡ s
unfolding outcome-in number_in
one-report (Ok a) (Ok b) e =
    let x : a.outcome ≡ b.outcome = sym (outcome-again a.outcome) ∙ ap (λ u. outcome_back (outcome-in u)) e ∙ outcome-again b.outcome in
    let y : a.called ≡ b.called = sym (job-again a.called) ∙ ap (λ u. job_back (called_in u)) e ∙ job-again b.called in
    λ i. accepts (x i) (y i) (number_in (e i))
one-report (Ok a) (Err m) e = let z : ◌≡◌ {A = ℕ} 0 1 = cc in absurd (omega arith)
one-report (Err k) (Ok b) e = let z : ◌≡◌ {A = ℕ} 0 1 = cc in absurd (omega arith)
one-report (Err k) (Err m) e = ap Err (same_number k m (ap number_in e))

-- ---- an accepted event is not refused
pub accepted-not : {a : Accepted} {k : Refusal} → Ok a ≡ Err k → ⊥
accepted-not e = let z : ◌≡◌ {A = ℕ} 0 1 = cc in omega arith

pub search-not : (outcome : Outcome) (r : Answer) {k : Refusal} → search_report outcome r ≡ Err k → ⊥
search-not outcome (Calls job count) e = accepted-not e
search-not outcome (Nobody count) e = accepted-not e

-- ---- by case of the answer
pub report-calls : (outcome : Outcome) {a : Answer} {job count : ℕ} → a ≡ Calls job count →
    accepts outcome (Some job) count ≡ search_report outcome a
report-calls outcome e = ap (search_report outcome) (sym e)

pub report-nobody : (outcome : Outcome) {a : Answer} {count : ℕ} → a ≡ Nobody count → accepts outcome None count ≡ search_report outcome a
report-nobody outcome e = ap (search_report outcome) (sym e)

-- ---- the answers of `search_answer` mean the rules' report of a search
module _ (s : ClosedSlots) (ticket entry : List ℕ) (now : List ℤ) (outcome : Outcome) where
  abbrev ws : List Waiter
  ws = waiters_in s ticket entry

  pub report-plain : (r : Answer) → r ≡ search_answer now ws → Plain (search_report outcome r)
  report-plain (Calls job count) e = (found-one s ticket entry now job count e).small
  report-plain (Nobody count) e = tt

  pub report-means : (r : Answer) → r ≡ search_answer now ws → meaning (search_report outcome r) ≡ accepted (outcome_of outcome) (job_of (found now ws)) (evaluated now ws)
  report-means (Calls job count) e =
      let f = found-one s ticket entry now job count e in
      (λ i. accepted (outcome_of outcome) (some (sym f.waiter-is i).job) (f.count-is i))
      ∙ ap (λ g. accepted (outcome_of outcome) (job_of g) (evaluated now ws)) (sym f.found-is)
  report-means (Nobody count) e = go (found now ws) refl e
    where
      go : (g : math.Option Pair) → found now ws ≡ g → Nobody count ≡ answer_for g (evaluated now ws) →
          accepted (outcome_of outcome) none count
          ≡ accepted (outcome_of outcome) (job_of (found now ws)) (evaluated now ws)
      go none h q = let c : count ≡ evaluated now ws = cc in (λ i. accepted (outcome_of outcome) (job_of (sym h i)) (c i))
      go (some p) h q = let z : ◌≡◌ {A = ℕ} 0 1 = cc in absurd (omega arith)

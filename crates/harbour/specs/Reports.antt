-- A host's report: the numbers for each of document 01's reports, and what numbers mean. An event's answer, told in these numbers, is the rules' report.
use Rattle.std.specs.Prelude.{◌≡◌, refl, List, [], ℕ, ◌<◌, ◌≤◌, eqb, ltb, length, if◌then◌else◌}
use Rattle.std.specs.Prelude.{Option, Some, None, MatchOption, unwrap_or, Result, Ok, Err, IfOk, ⊤}
use Rattle.std.proofs.Common.{ap, sym, ◌∙◌, subst, arith, lt-ltb}
use Rattle.rules.specs.Room.{Room}
use Rattle.rules.specs.Step.{Outcome, done, enters, waits, on, back, accepted, refusal, nothing}
use Rattle.rules.specs.Step as rules
use Rattle.rules.specs.Record.{event}
use Rattle.rules.specs.Tally.{take}
use Rattle.rules.specs.Demands.Answers.{Answers}
use Rattle.rules.proofs.Demands.Answers.{every-event-is-answered}
use Rattle.fields.specs.Answers.{numbered, place_of}
use Rattle.fields.specs.declared.refusal.Refusal.{Refusal}
use Rattle.room.specs.Arrays.{Arrays, room_of}
use Rattle.room.specs.Stores.{store_of, store_after}
use Rattle.room.specs.Kept.{Kept}
use Rattle.room.specs.Codes.{outcome_at, job_at, outcome_code, job_code, code-outcome, code-job}
use Rattle.room.specs.Reports.{outcome_of, outcome_number, job_in, Plain}
use Rattle.room.specs.Reports as room
use Rattle.room.specs.declared.report.Accepted.{Accepted}
use Rattle.event.specs.Answers.{PlainTaken, Unchanged, place_in, place_is, taken_report}
use Rattle.event.specs.Takes.{Takes}
use Rattle.event.specs.declared.Taken.{Taken}
use Rattle.harbour.specs.declared.report.Report.{Report}

abbrev pub report_numbers : ℕ → ℕ → ℕ → ℕ → ℕ → Report
report_numbers outcome job k count taken = record { outcome = outcome; job = job; refusal = k; count = count; taken = taken }

-- document 01's report and the bytes taken, in a host's numbers: outcomes 0 done, 1 in, 2 waits, 3 on, 4 back, 5 refused, 6 none left; job 32 for nobody
abbrev pub host_report : rules.Report → ℕ → Report
host_report (accepted outcome called count) taken = report_numbers (outcome_code outcome) (job_code called) 0 count taken
host_report (refusal k) taken = report_numbers 5 32 k 0 taken
host_report nothing taken = report_numbers 6 32 0 0 taken

-- and back
abbrev pub report_of : Report → rules.Report
report_of r =
    if ltb r.outcome 5 then accepted (outcome_at r.outcome) (job_at r.job) r.count else if eqb r.outcome 5 then refusal r.refusal else nothing

-- a refused event, and none left, leave every number as it was
abbrev pub Same : {A : Type 0} → rules.Report → A → A → Type 0
Same (accepted outcome called count) a b = Unit {0}
Same (refusal k) a b = b ≡ a
Same nothing a b = b ≡ a

-- b is what an event given these bytes makes of a, with this report: what the contract says of the arrays
pub record Reports (a b : Arrays) (bytes : List ℕ) (r : Report) : Type 0 where
  pub report : r ≡ host_report (take (room_of a) bytes).result.report (place_of bytes (take (room_of a) bytes).rest)
  pub means : report_of r ≡ (take (room_of a) bytes).result.report
  pub room : room_of b ≡ (take (room_of a) bytes).result.room
  pub store : store_of b ≡ store_after a (event a.measures bytes) (take (room_of a) bytes).result.report
  pub kept : Kept b
  pub same : Same (take (room_of a) bytes).result.report a b

-- ---- what `told` is given: a report, whose refusal may be any number, also none of document 01's, and the place after what was taken
abbrev pub Answer : Type 0
Answer = Option (Result Accepted ℕ × ℕ)

-- an answer of `event`, with its refusal's number
abbrev pub answer_of : Option Taken → Answer
answer_of (Some t) = Some (numbered t.report, t.next)
answer_of None = None

-- who is called is one of the jobs
abbrev pub CallsJob : Accepted → Type 0
CallsJob a = MatchOption a.called ⊤ (λ job. job < 32)

abbrev pub PlainAnswer : Answer → Type 0
PlainAnswer (Some p) = IfOk p.0 CallsJob
PlainAnswer None = Unit {0}

abbrev pub report_in : Result Accepted ℕ → rules.Report
report_in (Ok a) = accepted (outcome_of a.outcome) (job_in a.called) a.evaluated
report_in (Err k) = refusal k

abbrev pub answer_report : Answer → rules.Report
answer_report (Some p) = report_in p.0
answer_report None = nothing

-- 0 where nothing was taken
abbrev pub answer_place : Answer → ℕ
answer_place (Some p) = p.1
answer_place None = 0

-- ---- the answers of `told`
abbrev pub told_report : Result Accepted ℕ → ℕ → Report
told_report (Ok a) next = report_numbers (outcome_number a.outcome) (unwrap_or a.called 32) 0 a.evaluated next
told_report (Err k) next = report_numbers 5 32 k 0 next

abbrev pub told : Answer → Report
told (Some p) = told_report p.0 p.1
told None = report_numbers 6 32 0 0 0

job-most : (called : Option ℕ) → MatchOption called ⊤ (λ job. job < 32) → unwrap_or called 32 ≤ 32
job-most (Some job) h = omega (arith, h)
job-most None h = omega arith

pub told-job : {t : Answer} {a : Accepted} {next : ℕ} → t ≡ Some (Ok a, next) → PlainAnswer t → unwrap_or a.called 32 ≤ 32
told-job {a = a} e h = job-most a.called (subst PlainAnswer e h)

pub told-accepted : {t : Answer} {a : Accepted} {next called : ℕ} → t ≡ Some (Ok a, next) → called ≡ unwrap_or a.called 32 →
    report_numbers (outcome_number a.outcome) called 0 a.evaluated next ≡ told t
told-accepted {a = a} {next = p} e d =
    (λ i. report_numbers (outcome_number a.outcome) (d i) 0 a.evaluated p) ∙ ap told (sym e)

pub told-refused : {t : Answer} {k next : ℕ} → t ≡ Some (Err k, next) → report_numbers 5 32 k 0 next ≡ told t
told-refused e = ap told (sym e)

pub told-nothing : {t : Answer} → t ≡ None → report_numbers 6 32 0 0 0 ≡ told t
told-nothing e = ap told (sym e)

-- ---- and what they mean
told-called : (called : Option ℕ) → unwrap_or called 32 ≡ job_code (job_in called)
told-called (Some job) = refl
told-called None = refl

told_is : (t : Answer) → told t ≡ host_report (answer_report t) (answer_place t)
told_is (Some p) = go p.0
  where
    go : (w : Result Accepted ℕ) → told_report w p.1 ≡ host_report (report_in w) p.1
    go (Ok a) = λ i. report_numbers (outcome_number a.outcome) (told-called a.called i) 0 a.evaluated p.1
    go (Err k) = refl
told_is None = refl

code-below : (o : Outcome) → outcome_code o < 5
code-below done = omega arith
code-below enters = omega arith
code-below waits = omega arith
code-below on = omega arith
code-below back = omega arith

called-at : (called : Option ℕ) → MatchOption called ⊤ (λ job. job < 32) → job_at (unwrap_or called 32) ≡ job_in called
called-at (Some job) h = code-job job h
called-at None h = refl

told-means : (t : Answer) → PlainAnswer t → report_of (told t) ≡ answer_report t
told-means (Some p) h = go p.0 h
  where
    go : (w : Result Accepted ℕ) → IfOk w CallsJob → report_of (told_report w p.1) ≡ report_in w
    go (Ok a) h =
        rw (lt-ltb (outcome_number a.outcome) 5 (code-below (outcome_of a.outcome)))
        (λ i. accepted (code-outcome (outcome_of a.outcome) i) (called-at a.called h i) a.evaluated)
    go (Err k) h = refl
told-means None h = refl

-- ---- of an answer of `event`: it may be told, and what is told is its report and its place
pub plain-answer : (t : Option Taken) → PlainTaken t → PlainAnswer (answer_of t)
plain-answer (Some t) h = go t.report h
  where
    go : (w : room.Report) → Plain w → IfOk (numbered w) CallsJob
    go (Ok a) p = p
    go (Err k) p = tt
plain-answer None h = tt

answer-means : (t : Option Taken) → answer_report (answer_of t) ≡ taken_report t
answer-means (Some t) = go t.report
  where
    go : (w : room.Report) → report_in (numbered w) ≡ room.meaning w
    go (Ok a) = refl
    go (Err k) = refl
answer-means None = refl

answer-at : (t : Option Taken) → answer_place (answer_of t) ≡ place_in t
answer-at (Some t) = refl
answer-at None = refl

pub told-event : (t : Option Taken) → told (answer_of t) ≡ host_report (taken_report t) (place_in t)
told-event t = told_is (answer_of t) ∙ (λ i. host_report (answer-means t i) (answer-at t i))

pub told-event-means : (t : Option Taken) → PlainTaken t → report_of (told (answer_of t)) ≡ taken_report t
told-event-means t h = told-means (answer_of t) (plain-answer t h) ∙ answer-means t

same-as : (a b : Arrays) (t : Option Taken) → Unchanged a b t → Same (taken_report t) a b
same-as a b (Some t) u = go t.report u
  where
    go : (w : room.Report) → ((k : Refusal) → w ≡ Err k → b ≡ a) → Same (room.meaning w) a b
    go (Ok x) v = tt
    go (Err k) v = v k refl
same-as a b None u = u

-- none left: there were no bytes
no_bytes : (q s : Room) (bytes rest : List ℕ) (r : rules.Report) → Answers q bytes s rest r → rules.nothing ≡ r → bytes ≡ []
no_bytes q s bytes rest (accepted o c n) a e = let z : ◌≡◌ {A = ℕ} 0 1 = cc in absurd (omega arith)
no_bytes q s bytes rest (refusal k) a e = let z : ◌≡◌ {A = ℕ} 0 1 = cc in absurd (omega arith)
no_bytes q s bytes rest nothing a e = a.1

place-told : {a b : Arrays} {bytes : List ℕ} (t : Option Taken) → Takes a b bytes 0 t →
    place_in t ≡ place_of bytes (take (room_of a) bytes).rest
place-told {a} {bytes = bytes} None k =
    let e = no_bytes (room_of a) _ bytes _ _ (every-event-is-answered (room_of a) bytes) k.report in omega (arith, ap length e)
place-told {bytes = bytes} (Some t) k = place_is bytes _ (Some t) (λ e. let z : ◌≡◌ {A = ℕ} 0 1 = cc in omega arith) k.rest

-- what `event` promises, told
pub reports : {a b : Arrays} {bytes : List ℕ} {t : Option Taken} {r : Report} → Takes a b bytes 0 t → r ≡ told (answer_of t) →
    Reports a b bytes r
reports {a} {b} {bytes} {t} {r} k e = record {
  report = e ∙ told-event t ∙ (λ i. host_report (k.report i) (place-told t k i));
  means = ap report_of e ∙ told-event-means t k.plain ∙ k.report;
  room = k.room;
  store = k.store;
  kept = k.kept;
  same = subst (λ u. Same u a b) k.report (same-as a b t k.same);
}

-- A tally after a report: the rules' note of what the report means.
use Rattle.std.specs.Prelude.{◌≡◌, refl, ℕ, ◌<◌, ◌≤◌, eqb}
use Rattle.std.proofs.Common.{sym, ap, ◌∙◌, arith, lt-ltb, le-ltb, ne_eqb}
use Rattle.rules.specs.Tally.{Tally as Counts, note, ones, backs}
use Rattle.rules.specs.Laws.In.{by_bool}
use Rattle.room.specs.Codes.{outcome_at, job_at}
use Rattle.tally.specs.Added.{added_tally, tally_of, added-is-note}
use Rattle.tally.specs.declared.Tally.{Tally}
use Rattle.harbour.specs.Reports.{report_of}
use Rattle.harbour.specs.declared.report.Report.{Report}

-- the host's four numbers for what the rules count
abbrev pub counts_of : Counts → Tally
counts_of t = record { events = t.events; calls = t.calls; evaluated = t.evaluated; sent_back = t.sent_back }

abbrev pub noted_tally : Tally → Report → Tally
noted_tally t r = counts_of (note (report_of r) (tally_of t))

-- ---- the answers of `calls` and `sent_back`
pub one-call : (job : ℕ) → job < 32 → 1 ≡ ones (job_at job)
one-call job h = rw (lt-ltb job 32 h) refl

pub no_call : (job : ℕ) → 32 ≤ job → 0 ≡ ones (job_at job)
no_call job h = rw (le-ltb job 32 h) refl

pub one-back : {outcome : ℕ} → outcome ≡ 4 → 1 ≡ backs (outcome_at outcome)
one-back e = ap (λ o. backs (outcome_at o)) (sym e)

pub no-back : (outcome : ℕ) → (outcome ≡ 4 → ⊥) → 0 ≡ backs (outcome_at outcome)
no-back o n = by_bool (eqb o 1) (λ e. rw e refl) (λ d. rw d (by_bool (eqb o 2) (λ e. rw e refl) (λ d. rw d (by_bool (eqb o 3) (λ e. rw e refl) (λ d. rw d (rw (ne_eqb o 4 n) refl))))))

-- ---- the answers of `noted`
pub none-noted : (t : Tally) (r : Report) → 4 < r.outcome → t ≡ noted_tally t r
none-noted t r h = rw (le-ltb r.outcome 5 (omega (arith, h))) (by_bool (eqb r.outcome 5) (λ e. rw e refl) (λ e. rw e refl))

pub one-noted : (t : Tally) (r : Report) {x : Tally} {called back : ℕ} → r.outcome ≤ 4 → called ≡ ones (job_at r.job) →
    back ≡ backs (outcome_at r.outcome) → x ≡ added_tally t called r.count back → x ≡ noted_tally t r
one-noted t r h c b e =
    e ∙ (λ i. added_tally t (c i) r.count (b i))
    ∙ rw (lt-ltb r.outcome 5 (omega (arith, h))) (ap counts_of (added-is-note t (outcome_at r.outcome) (job_at r.job) r.count))

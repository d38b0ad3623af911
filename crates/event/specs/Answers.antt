-- Document 01's report for each case of the code's answer, and the place after what was taken. Report and place are determined: there is one such answer.
use Rattle.std.specs.Prelude.{◌≡◌, refl, List, [], ℕ, ◌≤◌, length, drop, Option, Some, None, Ok, Err}
use Rattle.std.proofs.Common.{sym, ap, ◌∙◌, arith}
use Rattle.rules.specs.Step as rules
use Rattle.fields.specs.Answers.{place_of}
use Rattle.fields.specs.Places.{place_after}
use Rattle.fields.specs.declared.refusal.Refusal.{Refusal}
use Rattle.room.specs.Arrays.{Arrays}
use Rattle.room.specs.Reports.{Report, meaning, Plain, one-report}
use Rattle.room.specs.declared.report.Accepted.{Accepted}
use Rattle.event.specs.declared.Taken.{Taken}

abbrev pub taken_report : Option Taken → rules.Report
taken_report (Some t) = meaning t.report
taken_report None = rules.nothing

-- what is left stands from the place on, which is in the bytes or at their end: so there is one such place
abbrev pub LeftAt : List ℕ → List ℕ → Option Taken → Type 0
LeftAt bytes rest (Some t) = (drop t.next bytes ≡ rest) × (t.next ≤ length bytes)
LeftAt bytes rest None = rest ≡ []

-- 0 where nothing was taken
abbrev pub place_in : Option Taken → ℕ
place_in (Some t) = t.next
place_in None = 0

pub left-place : (bytes rest : List ℕ) (r : Option Taken) → (r ≡ None → ⊥) → LeftAt bytes rest r →
    (drop (place_in r) bytes ≡ rest) × (place_in r ≤ length bytes)
left-place bytes rest (Some t) some l = l
left-place bytes rest None some l = absurd (some refl)

pub place_is : (bytes rest : List ℕ) (r : Option Taken) → (r ≡ None → ⊥) → LeftAt bytes rest r → place_in r ≡ place_of bytes rest
place_is bytes rest r some l = let p = left-place bytes rest r some l in sym (place_after bytes (place_in r) p.1) ∙ ap (place_of bytes) p.0

abbrev pub placed : Report → ℕ → Option Taken
placed report next = Some (record { report = report; next = next })

-- a refused event, and none left, leave every number as it was
abbrev pub Unchanged : Arrays → Arrays → Option Taken → Type 0
Unchanged a b (Some t) = (k : Refusal) → t.report ≡ Err k → b ≡ a
Unchanged a b None = b ≡ a

-- who is called is one of the jobs
abbrev pub PlainTaken : Option Taken → Type 0
PlainTaken (Some t) = Plain t.report
PlainTaken None = Unit {0}

-- no report says that no byte is left
reported : (r : Report) → meaning r ≡ rules.nothing → ⊥
reported (Ok a) e = let v : ◌≡◌ {A = ℕ} 0 1 = cc in omega arith
reported (Err k) e = let v : ◌≡◌ {A = ℕ} 0 1 = cc in omega arith

-- two answers that the contract allows are the same: report and place are determined
pub one_answer : (bytes rest : List ℕ) (r s : Option Taken) → taken_report r ≡ taken_report s → LeftAt bytes rest r → LeftAt bytes rest s →
    r ≡ s
one_answer bytes rest (Some t) (Some u) e x y =
    let w = one-report t.report u.report e in
    let at_one = place_is bytes rest (Some t) (λ f. let v : ◌≡◌ {A = ℕ} 0 1 = cc in omega arith) x in
    let at_other = place_is bytes rest (Some u) (λ f. let v : ◌≡◌ {A = ℕ} 0 1 = cc in omega arith) y in
    let z : t.next ≡ u.next = at_one ∙ sym at_other in
    λ i. placed (w i) (z i)
one_answer bytes rest None None e x y = refl
one_answer bytes rest (Some t) None e x y = absurd (reported t.report e)
one_answer bytes rest None (Some t) e x y = absurd (reported t.report (sym e))

-- ---- what a report at a place says
pub placed-accepted : {w : Report} {a : Accepted} (next : ℕ) → w ≡ Ok a → placed (Ok a) next ≡ placed w next
placed-accepted next e = ap (λ w. placed w next) (sym e)

pub placed-refused : {w : Report} {k : Refusal} (next : ℕ) → w ≡ Err k → placed (Err k) next ≡ placed w next
placed-refused next e = ap (λ w. placed w next) (sym e)

pub placed-report : (w : Report) (next : ℕ) → taken_report (placed w next) ≡ meaning w
placed-report w next = refl

pub placed-left : (bytes rest : List ℕ) (w : Report) (next : ℕ) → drop next bytes ≡ rest → next ≤ length bytes → LeftAt bytes rest (placed w next)
placed-left bytes rest w next e h = (e, h)

pub placed_same : (a b : Arrays) (w : Report) (next : ℕ) → ((k : Refusal) → w ≡ Err k → b ≡ a) → Unchanged a b (placed w next)
placed_same a b w next h = h

pub placed-plain : (w : Report) (next : ℕ) → Plain w → PlainTaken (placed w next)
placed-plain w next h = h

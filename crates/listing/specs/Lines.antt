-- The lines of a listing, each by itself, and their parts as the code writes them.
use Rattle.std.specs.Prelude.{◌≡◌, List, [], ◌∷◌, ◌++◌, ℕ, Option, Some, None}
use Rattle.std.proofs.Common.{sym, subst, append_assoc}
use Rattle.std.proofs.Math.Option as math
use Rattle.rules.specs.Listing.{text, decimal, line, outcome_word, ◌␣◌}
use Rattle.rules.specs.Listing as rules
use Rattle.rules.specs.Step as step
use Rattle.room.specs.Reports.{outcome_of, job_in}
use Rattle.room.specs.declared.report.Accepted.{Accepted}
use Rattle.room.specs.declared.report.Outcome.{Outcome}
use Rattle.room.specs.declared.report.Outcome.TheVariants.{Done, In, Waits, On, Back}
use Rattle.listing.specs.Output.{Output, Writes, writes, ◌then◌}

abbrev pub accepted_line : ℕ → step.Outcome → math.Option ℕ → ℕ → List ℕ
accepted_line n o j count = line (decimal n ␣ outcome_word o ␣ rules.job j ␣ decimal count) []

-- that of an event that the code accepted
abbrev pub line_of : ℕ → Accepted → List ℕ
line_of n a = accepted_line n (outcome_of a.outcome) (job_in a.called) a.evaluated

abbrev pub refused_line : ℕ → ℕ → List ℕ
refused_line n k = line (decimal n ␣ text "refused" ␣ decimal k) []

abbrev pub end_line : ℕ → List ℕ
end_line before = line (text "end" ␣ decimal before) []

abbrev pub outcome_text : step.Outcome → List ℕ
outcome_text o = 32 ∷ (outcome_word o ++ (32 ∷ []))

abbrev pub job_text : math.Option ℕ → List ℕ
job_text = rules.job

-- what stands after a line
pub line_after : (l after : List ℕ) → line l after ≡ line l [] ++ after
line_after l after = sym (append_assoc l (10 ∷ []) after)

-- ---- the answers of `put_outcome` and `put_job`
module _ {o q : Output} (x : Outcome) where
  coded : (code : Outcome) → x ≡ code → Writes o q (outcome_text (outcome_of code)) → Writes o q (outcome_text (outcome_of x))
  coded code e w = subst (λ (c : Outcome). Writes o q (outcome_text (outcome_of c))) (sym e) w

  pub writes-in : x ≡ In → Writes o q (text " in ") → Writes o q (outcome_text (outcome_of x))
  writes-in e w = coded In e w

  pub writes-waits : x ≡ Waits → Writes o q (text " waits ") → Writes o q (outcome_text (outcome_of x))
  writes-waits e w = coded Waits e w

  pub writes-on : x ≡ On → Writes o q (text " on ") → Writes o q (outcome_text (outcome_of x))
  writes-on e w = coded On e w

  pub writes-back : x ≡ Back → Writes o q (text " back ") → Writes o q (outcome_text (outcome_of x))
  writes-back e w = coded Back e w

  pub writes-done : x ≡ Done → Writes o q (text " done ") → Writes o q (outcome_text (outcome_of x))
  writes-done e w = coded Done e w

module _ {o q : Output} (x : Option ℕ) where
  pub writes-called : {job : ℕ} → x ≡ Some job → Writes o q (decimal job) → Writes o q (job_text (job_in x))
  writes-called e w = rw e w

  pub writes-nobody : x ≡ None → Writes o q (text "-") → Writes o q (job_text (job_in x))
  writes-nobody e w = rw e w

-- ---- the answers of the functions for lines
pub writes_line : {o p q r : Output} {words : List ℕ} (n : ℕ) → Writes o p words → Writes p q (decimal n) → Writes q r (10 ∷ []) → Writes o r (line (words ++ decimal n) [])
writes_line n a b c = (a then b) then c

four-fields : (a b c d : List ℕ) → a ++ ((32 ∷ (b ++ (32 ∷ []))) ++ (c ++ ((32 ∷ d) ++ (10 ∷ [])))) ≡ (a ++ (32 ∷ (b ++ (32 ∷ (c ++ (32 ∷ d)))))) ++ (10 ∷ [])
four-fields a b c d = simp append_assoc

pub writes-accepted : {o p q r s : Output} (n : ℕ) (w : step.Outcome) (j : math.Option ℕ) (count : ℕ) → Writes o p (decimal n) →
    Writes p q (outcome_text w) → Writes q r (job_text j) → Writes r s (line ((32 ∷ []) ++ decimal count) []) →
    Writes o s (accepted_line n w j count)
writes-accepted n w j count a b c d = writes (four-fields (decimal n) (outcome_word w) (job_text j) (decimal count)) (a then b then c then d)

pub writes-refused : {o p q : Output} (n k : ℕ) → Writes o p (decimal n) → Writes p q (line (text " refused " ++ decimal k) []) → Writes o q (refused_line n k)
writes-refused n k a b = writes (sym (append_assoc (decimal n) (text " refused " ++ decimal k) (10 ∷ []))) (a then b)

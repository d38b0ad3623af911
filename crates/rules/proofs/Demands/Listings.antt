-- A listing has a line for every event: the bound on their number that `lines` recurses on is never met, since each event takes bytes.
use Rattle.std.specs.Prelude.{◌≡◌, refl, ◌⊎◌, false, List, ℕ, zero, suc, ◌<◌, ◌≤◌, leb, length}
use Rattle.std.proofs.Common.{ap, inl, inr, arith, length-drop, leb-false}
use Rattle.rules.specs.Room.{Room}
use Rattle.rules.specs.Step.{Report, accepted, refusal, nothing}
use Rattle.rules.specs.Tally.{take}
use Rattle.rules.specs.Listing.{lines, reported, line, text, decimal, ◌␣◌, job, outcome_word}
use Rattle.rules.specs.Laws.In.{by_bool}
use Rattle.rules.specs.Laws.Readers.{Took}
use Rattle.rules.specs.Demands.Answers.{Answers}
use Rattle.rules.proofs.Demands.Answers.{every-event-is-answered}

pub shorter : {bytes rest : List ℕ} → Took 2 bytes rest → length rest < length bytes
shorter {bytes} t = omega (arith, t.at_least, t.at_most, ap length t.left, length-drop t.count bytes)

module _ (n before : ℕ) (r q : Room) (rest : List ℕ) where
  same_after : (f g : ℕ → ℕ → Room → List ℕ → List ℕ) (bytes : List ℕ) → ((m b : ℕ) (s : Room) → length rest < length bytes → f m b s rest ≡ g m b s rest) →
      (x : Report) → Answers r bytes q rest x → reported n before r q rest f x ≡ reported n before r q rest g x
  same_after f g bytes h (accepted o calls count) a = ap (line (decimal n ␣ outcome_word o ␣ job calls ␣ decimal count)) (h (suc n) (suc before) q (shorter a))
  same_after f g bytes h nothing a = refl
  same_after f g bytes h (refusal k) a = ap (line (decimal n ␣ text "refused" ␣ decimal k)) (by_bool (leb k 4) (λ t. rw t) (λ u. rw u (h (suc n) before r (taken u a.1))))
    where
      taken : leb k 4 ≡ false → ((1 ≤ k) × (k ≤ 4) × (rest ≡ bytes)) ⊎ ((5 ≤ k) × (k ≤ 7) × Took 2 bytes rest) → length rest < length bytes
      taken u (inl i) = absurd (omega (arith, leb-false k 4 u, i.1))
      taken u (inr i) = shorter i.2

-- any two bounds above the number of bytes give the same lines
pub lines-enough : (most more n before : ℕ) (r : Room) (bytes : List ℕ) → length bytes < most → length bytes < more → lines most n before r bytes ≡ lines more n before r bytes
lines-enough zero more n before r bytes l h = absurd (omega arith)
lines-enough (suc most) zero n before r bytes l h = absurd (omega arith)
lines-enough (suc most) (suc more) n before r bytes l h =
    let t = take r bytes in
    same_after n before r t.result.room t.rest (lines most) (lines more) bytes (λ m b s k. lines-enough most more m b s t.rest (omega (arith, k)) (omega (arith, k))) t.result.report (every-event-is-answered r bytes)

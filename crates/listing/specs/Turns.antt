-- The lines from an event on, in turns: an event's own line, and then the lines from the next one on, or the last line.
use Rattle.std.specs.Prelude.{◌≡◌, refl, ◌⊎◌, Bool, true, false, List, ◌++◌, ℕ, suc, ◌+◌, ◌<◌, ◌≤◌, length, drop, None, Ok, Err}
use Rattle.std.proofs.Common.{sym, ap, ◌∙◌, subst, inl, inr, add-one, arith, le-leb}
use Rattle.std.proofs.lemmas.Bool.{lt-leb}
use Rattle.rules.specs.Room.{Room}
use Rattle.rules.specs.Step.{Report}
use Rattle.rules.specs.Tally as tally
use Rattle.rules.specs.Listing.{lines, reported, line, text, decimal, ◌␣◌, job, outcome_word}
use Rattle.rules.specs.Laws.Readers.{Took}
use Rattle.rules.specs.Demands.Answers.{Answers}
use Rattle.rules.proofs.Demands.Answers.{every-event-is-answered}
use Rattle.rules.proofs.Demands.Listings.{lines-enough, shorter}
use Rattle.room.specs.Arrays.{Arrays, room_of}
use Rattle.fields.specs.Refusals.{refusal_number}
use Rattle.fields.specs.declared.refusal.Refusal.{Refusal}
use Rattle.room.specs.Reports.{outcome_of, job_in}
use Rattle.room.specs.declared.report.Accepted.{Accepted}
use Rattle.event.specs.Answers.{placed}
use Rattle.event.specs.Takes.{Takes}
use Rattle.listing.specs.Lines.{line_of, refused_line, end_line, line_after}

-- the lines of the events that stand in the bytes from a place on: the first of them is event n, after `before` accepted ones
abbrev pub lines_from : List ℕ → ℕ → ℕ → ℕ → Arrays → List ℕ
lines_from bytes place n before a = lines (suc (length (drop place bytes))) n before (room_of a) (drop place bytes)

module _ (a : Arrays) (bytes : List ℕ) (place n before : ℕ) where
  abbrev left : List ℕ
  left = drop place bytes

  abbrev taken : tally.Taken
  taken = tally.take (room_of a) left

  abbrev reports : Report → List ℕ
  reports x = reported n before (room_of a) taken.result.room taken.rest (lines (length left)) x

  answered : {x : Report} → x ≡ taken.result.report → Answers (room_of a) left taken.result.room taken.rest x
  answered e = subst (Answers (room_of a) left taken.result.room taken.rest) (sym e) (every-event-is-answered (room_of a) left)

  -- the lines after this event
  onward : (m k next : ℕ) (r : Room) → taken.rest ≡ drop next bytes → length taken.rest < length left → lines (length left) m k r taken.rest ≡ lines (suc (length (drop next bytes))) m k r (drop next bytes)
  onward m k next r e h = lines-enough (length left) (suc (length taken.rest)) m k r taken.rest h (omega arith) ∙ ap (λ (l : List ℕ). lines (suc (length l)) m k r l) e

  -- a refusal of 1 to 4 is the last event
  abbrev refuses : (k : ℕ) → Bool → List ℕ
  refuses k four = line (decimal n ␣ text "refused" ␣ decimal k) (elim four [ true ↦ end_line before | false ↦ lines (length left) (suc n) before (room_of a) taken.rest ])

  module _ {b : Arrays} {next : ℕ} where
    pub accepted-shorter : {w : Accepted} → Takes a b bytes place (placed (Ok w) next) → length (drop next bytes) < length left
    accepted-shorter t = omega (arith, shorter (answered t.report), ap length t.rest.0)

    pub accepted-turn : {w : Accepted} → Takes a b bytes place (placed (Ok w) next) →
        lines_from bytes place n before a ≡ line_of n w ++ lines_from bytes next (n + 1) (before + 1) b
    accepted-turn {w} t =
        let l = decimal n ␣ outcome_word (outcome_of w.outcome) ␣ job (job_in w.called) ␣ decimal w.evaluated in
        ap reports (sym t.report) ∙ ap (line l) (onward (suc n) (suc before) next taken.result.room (sym t.rest.0) (shorter (answered t.report))) ∙
        (λ i. line l (lines (suc (length (drop next bytes))) (sym (add-one n) i) (sym (add-one before) i) (sym t.room i) (drop next bytes))) ∙
        line_after l (lines_from bytes next (n + 1) (before + 1) b)

    module _ {c : Refusal} (t : Takes a b bytes place (placed (Err c) next)) where
      abbrev k : ℕ
      k = refusal_number c

      pub last_turn : k ≤ 4 → lines_from bytes place n before a ≡ refused_line n k ++ end_line before
      last_turn h =
          ap reports (sym t.report) ∙ ap (refuses k) (le-leb k 4 h) ∙
          line_after (decimal n ␣ text "refused" ␣ decimal k) (end_line before)

      pub refused-shorter : 4 < k → length (drop next bytes) < length left
      refused-shorter h = by (answered t.report).1
        where
          by : ((1 ≤ k) × (k ≤ 4) × (taken.rest ≡ left)) ⊎ ((5 ≤ k) × (k ≤ 7) × Took 2 left taken.rest) →
              length (drop next bytes) < length left
          by (inl i) = absurd (omega (arith, i.1))
          by (inr i) = omega (arith, shorter i.2, ap length t.rest.0)

      pub refused-turn : 4 < k →
          lines_from bytes place n before a ≡ refused_line n k ++ lines_from bytes next (n + 1) before b
      refused-turn h =
          let l = decimal n ␣ text "refused" ␣ decimal k in
          ap reports (sym t.report) ∙ ap (refuses k) (lt-leb k 4 h) ∙
          ap (line l) (onward (suc n) before next (room_of a) (sym t.rest.0) (omega (arith, refused-shorter h, ap length t.rest.0))) ∙
          (λ i. line l (lines (suc (length (drop next bytes))) (sym (add-one n) i) before (room_of (sym (t.same c refl) i))
          (drop next bytes))) ∙
          line_after l (lines_from bytes next (n + 1) before b)

  pub no-turn : {b : Arrays} → Takes a b bytes place None → lines_from bytes place n before a ≡ end_line before
  no-turn t = ap reports (sym t.report)

-- Where a run through the events of a stream stands: what is still to be written, after what is written, comes to the whole.
use Rattle.std.specs.Prelude.{◌≡◌, List, ℕ, ◌+◌, ◌<◌, ◌≤◌, length, drop, Option, Some, None, Ok, Err}
use Rattle.std.proofs.Common.{sym, ◌∙◌, subst, arith, length-drop}
use Rattle.room.specs.Arrays.{Arrays}
use Rattle.room.specs.Kept.{Kept}
use Rattle.fields.specs.Refusals.{refusal_number}
use Rattle.fields.specs.declared.refusal.Refusal.{Refusal}
use Rattle.room.specs.declared.report.Accepted.{Accepted}
use Rattle.event.specs.Answers.{placed}
use Rattle.event.specs.Takes.{Takes}
use Rattle.event.specs.declared.Taken.{Taken}
use Rattle.listing.specs.Output.{Output, Writes, writes, ◌then◌}
use Rattle.listing.specs.Lines.{line_of, refused_line, end_line}
use Rattle.listing.specs.Turns.{lines_from, accepted-turn, accepted-shorter, last_turn, refused-turn, refused-shorter, no-turn}

-- o is the output where the run began, and `whole` what it will have written there at its end; p is the output now
pub record Running (o : Output) (whole : List ℕ) (p : Output) (bytes : List ℕ) (place n before : ℕ) (a : Arrays) : Type 0 where
  pub kept : Kept a
  pub leads : (q : Output) → Writes p q (lines_from bytes place n before a) → Writes o q whole
  -- each event took a byte, so the numbers stay small
  pub counted : n + length (drop place bytes) ≤ length bytes + 1
  pub fewer : before < n

pub run-starts : (o : Output) (bytes : List ℕ) (place : ℕ) {a : Arrays} → Kept a → Running o (lines_from bytes place 1 0 a) o bytes place 1 0 a
run-starts o bytes place k = record { kept = k; leads = λ q w. w; counted = omega (arith, length-drop place bytes); fewer = omega arith }

module _ {o : Output} {whole : List ℕ} {p : Output} {bytes : List ℕ} {place n before : ℕ} {a b : Arrays} {w : Option Taken}
    (r : Running o whole p bytes place n before a) (t : Takes a b bytes place w) where
  -- an event was taken, and stands for one of two reports
  module _ {v : Taken} (some : w ≡ Some v) where
    module _ {x : Accepted} (is : v.report ≡ Ok x) where
      accepts : Takes a b bytes place (placed (Ok x) v.next)
      accepts = subst (Takes a b bytes place) (some ∙ (λ i. placed (is i) v.next)) t

      pub accepted-less : length (drop v.next bytes) < length (drop place bytes)
      accepted-less = accepted-shorter a bytes place n before accepts

      pub run-accepts : {q : Output} → Writes p q (line_of n x) → Running o whole q bytes v.next (n + 1) (before + 1) b
      run-accepts e = record {
        kept = t.kept;
        leads = λ u z. r.leads u (writes (sym (accepted-turn a bytes place n before accepts)) (e then z));
        counted = omega (arith, r.counted, accepted-less);
        fewer = omega (arith, r.fewer);
      }

    module _ {c : Refusal} (is : v.report ≡ Err c) where
      refuses : Takes a b bytes place (placed (Err c) v.next)
      refuses = subst (Takes a b bytes place) (some ∙ (λ i. placed (is i) v.next)) t

      pub refused-less : 4 < refusal_number c → length (drop v.next bytes) < length (drop place bytes)
      refused-less h = refused-shorter a bytes place n before refuses h

      pub run-refuses : {q : Output} → 4 < refusal_number c → Writes p q (refused_line n (refusal_number c)) →
          Running o whole q bytes v.next (n + 1) before b
      run-refuses h e = record {
        kept = t.kept;
        leads = λ u z. r.leads u (writes (sym (refused-turn a bytes place n before refuses h)) (e then z));
        counted = omega (arith, r.counted, refused-less h);
        fewer = omega (arith, r.fewer);
      }

      pub run-stops : {q u : Output} → refusal_number c ≤ 4 → Writes p q (refused_line n (refusal_number c)) →
          Writes q u (end_line before) → Writes o u whole
      run-stops {q} {u} h e z = r.leads u (writes (sym (last_turn a bytes place n before refuses h)) (e then z))

  pub run_ends : {u : Output} → w ≡ None → Writes p u (end_line before) → Writes o u whole
  run_ends {u} e z = r.leads u (writes (sym (no-turn a bytes place n before (subst (Takes a b bytes place) e t))) z)

-- A whole stream: the opening's line, and then the lines of its events; or the one line of a refused opening, or of an input too long.
use Rattle.std.specs.Prelude.{◌≡◌, refl, Bool, true, false, List, [], ◌++◌, ℕ, suc, ◌<◌, ◌≤◌, min, length, drop, Result, Ok, Err}
use Rattle.std.proofs.Common.{sym, ap, ◌∙◌, arith, lt-ltb, le-ltb}
use Rattle.rules.specs.Number.{Read, read, refused}
use Rattle.rules.specs.Room.{Room}
use Rattle.rules.specs.Record.{opening}
use Rattle.rules.specs.Listing.{text, decimal, line, lines, run, listing, ◌␣◌}
use Rattle.rules.specs.Laws.WellFormed.{sound-opening}
use Rattle.fields.specs.Answers.{place_of, numbered}
use Rattle.fields.specs.Places.{at_place}
use Rattle.fields.specs.Refusals.{refusal_number}
use Rattle.fields.specs.declared.refusal.Refusal.{Refusal}
use Rattle.room.specs.Arrays.{Arrays}
use Rattle.room.specs.Kept.{Kept}
use Rattle.opening.specs.Opens.{Opens, opened-means, refused-means}
use Rattle.listing.specs.Output.{Output, output, filled, Writes, writes, ◌then◌, fills}
use Rattle.listing.specs.Lines.{line_after}
use Rattle.listing.specs.Turns.{lines_from}

-- ---- an opening, by its answer
module _ (bytes : List ℕ) {r : Result (ℕ × ℕ) Refusal} {a : Arrays} (said : Opens bytes r a) where
  pub opened-run : (p : ℕ × ℕ) → r ≡ Ok p →
      Kept a × (run (opening bytes) ≡ line (text "open " ++ decimal p.0) [] ++ lines_from bytes p.1 1 0 a)
  opened-run p answer = go (opening bytes) refl
    where
      go : (x : Read Room) → opening bytes ≡ x →
          Kept a × (run (opening bytes) ≡ line (text "open " ++ decimal p.0) [] ++ lines_from bytes p.1 1 0 a)
      go (read room rest) e =
          let o = opened-means bytes r a said room rest e in
          let same : p ≡ (length room.measures, place_of bytes rest) = cc in
          let many : length room.measures ≡ p.0 = ap (λ q. q.0) (sym same) in
          let place : place_of bytes rest ≡ p.1 = ap (λ q. q.1) (sym same) in
          let took = (sound-opening.gives bytes room rest e).1 in
          let left : rest ≡ drop p.1 bytes = at_place bytes 0 took ∙ ap (λ (n : ℕ). drop n bytes) place in
          let listed : run (read room rest) ≡ line (text "open" ␣ decimal p.0) (lines_from bytes p.1 1 0 a) =
          λ i. line (text "open" ␣ decimal (many i)) (lines (suc (length (left i))) 1 0 (sym o.1 i) (left i)) in
          (o.2, ap run e ∙ listed ∙ line_after (text "open " ++ decimal p.0) (lines_from bytes p.1 1 0 a))
      go (refused k) e =
          let q : Ok p ≡ Err k = sym (ap numbered answer) ∙ (refused-means bytes r a said k e).0 in
          let z : ◌≡◌ {A = ℕ} 0 1 = cc in
          absurd (omega arith)

  pub refused-run : (c : Refusal) → r ≡ Err c → run (opening bytes) ≡ line (text "open refused " ++ decimal (refusal_number c)) []
  refused-run c answer = go (opening bytes) refl
    where
      go : (x : Read Room) → opening bytes ≡ x → run (opening bytes) ≡ line (text "open refused " ++ decimal (refusal_number c)) []
      go (read room rest) e = let o = opened-means bytes r a said room rest e in let z : ◌≡◌ {A = ℕ} 0 1 = cc in absurd (omega arith)
      go (refused n) e =
          let q : Err (refusal_number c) ≡ Err n = sym (ap numbered answer) ∙ (refused-means bytes r a said n e).0 in
          let same : n ≡ refusal_number c = cc in
          ap run e ∙ ap (λ (j : ℕ). line (text "open refused " ++ decimal j) []) same

  -- ---- as the code has it: the answer, and the room that it leaves
  pub stream-kept : {p : ℕ × ℕ} → r ≡ Ok p → Kept a
  stream-kept {p} e = (opened-run p e).0

  pub stream-written : {p : ℕ × ℕ} {o q s : Output} → r ≡ Ok p → Writes o q (line (text "open " ++ decimal p.0) []) →
      Writes q s (lines_from bytes p.1 1 0 a) → Writes o s (run (opening bytes))
  stream-written {p} e v w = writes (sym (opened-run p e).1) (v then w)

  pub stream-refused : {c : Refusal} {o q : Output} → r ≡ Err c →
      Writes o q (line (text "open refused " ++ decimal (refusal_number c)) []) → Writes o q (run (opening bytes))
  stream-refused {c} e w = writes (sym (refused-run c e)) w

-- ---- and the whole, into a buffer
abbrev pub Listed : List ℕ → List ℕ → ℕ → List ℕ → Type 0
Listed buffer bytes place input = (bytes ≡ filled buffer (listing input)) × (place ≡ min (length buffer) (length (listing input)))

abbrev pub by_length : List ℕ → Bool → List ℕ
by_length input long = elim long [ true ↦ line (text "refused 8") [] | false ↦ run (opening input) ]

module _ (buffer input : List ℕ) {bytes : List ℕ} {place : ℕ} where
  pub too_long : 65536 < length input → Writes (output buffer 0) (output bytes place) (line (text "refused 8") []) → Listed buffer bytes place input
  too_long h w = fills buffer (listing input) (writes (sym (ap (by_length input) (lt-ltb 65536 (length input) h))) w)

  pub not-too-long : length input ≤ 65536 → Writes (output buffer 0) (output bytes place) (run (opening input)) → Listed buffer bytes place input
  not-too-long h w = fills buffer (listing input) (writes (sym (ap (by_length input) (le-ltb 65536 (length input) h))) w)

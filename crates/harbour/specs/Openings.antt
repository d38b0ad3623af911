-- What an opening tells a host, and leaves in its room: the numbers of `open`, which are determined by the bytes.
use Rattle.std.specs.Prelude.{◌≡◌, refl, List, ℕ, Result, Ok, Err}
use Rattle.std.proofs.Common.{ap, sym, ◌∙◌}
use Rattle.rules.specs.Record.{opening}
use Rattle.fields.specs.Answers.{numbered}
use Rattle.fields.specs.declared.refusal.Refusal.{Refusal}
use Rattle.wire.specs.Openings.{as_opening, coefficients_of, values_of}
use Rattle.room.specs.Arrays.{Arrays, arrays}
use Rattle.opening.specs.Opens.{Opens, empty_with, measures_in}
use Rattle.harbour.specs.declared.report.Opened.{Opened}

abbrev pub opened_numbers : ℕ → ℕ → ℕ → Opened
opened_numbers k measures taken = record { refusal = k; measures = measures; taken = taken }

abbrev pub told_opening : Result (ℕ × ℕ) ℕ → Opened
told_opening (Ok p) = opened_numbers 0 p.0 p.1
told_opening (Err k) = opened_numbers k 0 0

-- all equations: any two answers that it allows are the same, and so are the rooms
pub record OpensRoom (bytes : List ℕ) (r : Opened) (a : Arrays) : Type 0 where
  pub tells : r ≡ told_opening (as_opening bytes (opening bytes))
  pub opens : a ≡ empty_with (coefficients_of (opening bytes)) (values_of (opening bytes)) r.measures

-- ---- the answers of `Opened`'s `from`
pub told-got : {x : Result (ℕ × ℕ) ℕ} {n place : ℕ} → x ≡ Ok (n, place) → opened_numbers 0 n place ≡ told_opening x
told-got e = ap told_opening (sym e)

pub told-refusal : {x : Result (ℕ × ℕ) ℕ} {k : ℕ} → x ≡ Err k → opened_numbers k 0 0 ≡ told_opening x
told-refusal e = ap told_opening (sym e)

-- ---- the answer of `take_opening`: the measure count that `open` answered is the one that is told
abbrev pub with_measures : Arrays → ℕ → Arrays
with_measures a n = arrays a.coefficients a.values a.standing a.ticket a.slots a.entry a.high a.low a.places a.lengths n a.next

told-measures : (x : Result (ℕ × ℕ) Refusal) → measures_in x ≡ (told_opening (numbered x)).measures
told-measures (Ok p) = refl
told-measures (Err e) = refl

pub opens-room : {bytes : List ℕ} (x : Result (ℕ × ℕ) Refusal) {a : Arrays} {r : Opened} {n : ℕ} → Opens bytes x a →
    n ≡ measures_in x → r ≡ told_opening (numbered x) → OpensRoom bytes r (with_measures a n)
opens-room {bytes} x {a} {r} {n} o m t = record {
  tells = t ∙ ap told_opening o.0;
  opens = ap (λ b. with_measures b n) o.1
      ∙ ap (empty_with (coefficients_of (opening bytes)) (values_of (opening bytes))) (m ∙ told-measures x ∙ ap (λ u. u.measures) (sym t));
}

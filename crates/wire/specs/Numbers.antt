-- Numbers read one after the other into slots are the rules' `times`.
use Rattle.std.specs.Prelude.{◌≡◌, refl, List, [], ◌∷◌, ℕ, suc, ◌+◌, ◌-◌, ◌≤◌, ℤ, length, drop, set, Result, Ok, Err, IsErrAnd}
use Rattle.std.proofs.Common.{ap}
use Rattle.std.proofs.lemmas.List.Edits.{sets}
use Rattle.rules.specs.Number.{times, signed_field}
use Rattle.rules.specs.Laws.Readers.{SoundReader, sound-signed, sound-times}
use Rattle.rules.specs.Laws.WellFormed.{Numbers}
use Rattle.fields.specs.Answers.{as_answer, numbered, passed-on}
use Rattle.wire.specs.Into.{Into, Told, put_all, all_none, all-no, all_more}
use Rattle.fields.specs.Places.{answer_read, answer-refused}
use Rattle.fields.specs.declared.refusal.Refusal.{Refusal}

abbrev pub put_number : ℕ → List ℤ → ℤ → List ℤ
put_number slot out z = set out slot z

-- so many numbers, from slot `first` on
abbrev pub put_numbers : ℕ → List ℤ → List ℤ → List ℤ
put_numbers = put_all put_number

pub numbers-sound : (count most : ℕ) → SoundReader 0 (Numbers count most) (times count (signed_field most))
numbers-sound count most = sound-times (signed_field most) (sound-signed most) count

-- that is what `sets` does
pub put-sets : (first : ℕ) (out l : List ℤ) → put_numbers first out l ≡ sets out first l
put-sets first out [] = refl
put-sets first out (z ∷ l) = put-sets (suc first) (set out first z) l

module _ (bytes : List ℕ) (at most first count : ℕ) (out : List ℤ) where
  pub stored-none : count ≡ 0 → (count ≡ 0 → at ≤ length bytes) →
      Into (put_numbers first) bytes out (times count (signed_field most) (drop at bytes)) (Ok at) out
  stored-none = all_none (sound-signed most) put_number bytes at first count

  module _ {answer : Result (ℤ × ℕ) Refusal} (from : numbered answer ≡ as_answer bytes (signed_field most (drop at bytes)))
      (some_left : count ≡ 0 → ⊥) where
    pub stored_refused : {e : Refusal} (r : Result ℕ Refusal) {out' : List ℤ} → answer ≡ Err e → IsErrAnd r (λ x. x ≡ e) →
        Into (put_numbers first) bytes out (times count (signed_field most) (drop at bytes)) (numbered r) out'
    stored_refused {e} r got i = all-no (sound-signed most) put_number bytes at first count some_left
        (answer-refused (sound-signed most) bytes at from got) (passed-on r e i refl)

    -- y is what the machine puts into the slot for z
    pub stored_more : {y : ℤ} {p : ℤ × ℕ} {r : Result ℕ ℕ} {out' : List ℤ} → answer ≡ Ok p → y ≡ p.0 →
        Into (put_numbers (first + 1)) bytes (set out first y) (times (count - 1) (signed_field most) (drop p.1 bytes)) r out' →
        Into (put_numbers first) bytes out (times count (signed_field most) (drop at bytes)) r out'
    stored_more {p = p} got e i = all_more (sound-signed most) put_number bytes at first count some_left p.1
        (answer_read (sound-signed most) bytes at from got).0 (ap (set out first) e) i

-- the place after a number is in the bytes
pub read-within : (bytes : List ℕ) (at most : ℕ) {answer : Result (ℤ × ℕ) Refusal} {p : ℤ × ℕ} →
    numbered answer ≡ as_answer bytes (signed_field most (drop at bytes)) → answer ≡ Ok p → p.1 ≤ length bytes
read-within bytes at most from got = (answer_read (sound-signed most) bytes at from got).1

-- ---- what an answer tells
abbrev pub ReadInto : List ℕ → ℕ → ℕ → ℕ → ℕ → ℕ → List ℤ → List ℤ → Type 0
ReadInto bytes at most first count next out out' = Told (times count (signed_field most)) (Numbers count most) (put_numbers first) bytes at next out out'

-- An opening in lent slots: what each holds, and that the code's way of reading is the rules'.
use Rattle.std.specs.Prelude.{◌≡◌, List, ◌++◌, ℕ, zero, suc, ◌*◌, ◌-◌, ◌≤◌, ℤ, pos, length, drop, replicate, refl, true, false, Result}
use Rattle.std.specs.Prelude.{Ok, Err, is_err, IsErrAnd, OnOk}
use Rattle.std.proofs.Common.{sym, ap, ◌∙◌, append-nil, zero-add, arith}
use Rattle.std.proofs.Math.Nat.{sub-zero, zero-sub, suc-sub-suc}
use Rattle.std.proofs.lemmas.List.{length-replicate}
use Rattle.std.proofs.lemmas.List.Edits.{sets, sets-eq}
use Rattle.rules.specs.Laws.In.{true-not-false}
use Rattle.rules.specs.Limits.{variables, measures_most}
use Rattle.rules.specs.Number.{Read, read, refused, number, field, times, signed_field}
use Rattle.rules.specs.Record.{coefficient, value, opening}
use Rattle.rules.specs.Room.{Room, opened}
use Rattle.rules.specs.Laws.Readers.{SoundReader, sound-field, sound-times}
use Rattle.rules.specs.Laws.WellFormed.{sound-coefficient}
use Rattle.fields.specs.Answers.{place_of, as_answer, numbered, FieldAnswer, passed-on}
use Rattle.fields.specs.Fields.{field-numbered}
use Rattle.wire.specs.Into.{Into, told-no}
use Rattle.wire.specs.Numbers.{ReadInto, put_numbers, put-sets, numbers-sound}
use Rattle.fields.specs.Places.{answer_read, answer-refused, place_after}
use Rattle.wire.specs.Rows.{flat, with, times-flat}
use Rattle.fields.specs.Refusals.{refusal_number}
use Rattle.fields.specs.declared.refusal.Refusal.{Refusal}
use Rattle.fields.specs.declared.refusal.Refusal.TheVariants.{OutOfRange}

-- these numbers, and 0 in the slots after them
abbrev pub slots : ℕ → List ℤ → List ℤ
slots count l = l ++ replicate (count - length l) (pos 0)

abbrev pub as_opening : List ℕ → Read Room → Result (ℕ × ℕ) ℕ
as_opening bytes (read r rest) = Ok (length r.measures, place_of bytes rest)
as_opening bytes (refused k) = Err k

abbrev pub coefficients_of : Read Room → List ℤ
coefficients_of (read r rest) = slots 128 (flat r.measures)
coefficients_of (refused k) = replicate 128 (pos 0)

abbrev pub values_of : Read Room → List ℤ
values_of (read r rest) = r.values
values_of (refused k) = replicate 8 (pos 0)

-- numbers stored from the first slot on, where every slot was 0
drop-replicate : (n m : ℕ) (a : ℤ) → drop n (replicate m a) ≡ replicate (m - n) a
drop-replicate zero m a = ap (λ k. replicate k a) (sym (sub-zero m))
drop-replicate (suc n) zero a = ap (λ k. replicate k a) (sym (zero-sub (suc n)))
drop-replicate (suc n) (suc m) a = drop-replicate n m a ∙ ap (λ k. replicate k a) (sym (suc-sub-suc m n))

pub stored-slots : (count : ℕ) (l : List ℤ) → length l ≤ count → sets (replicate count (pos 0)) 0 l ≡ slots count l
stored-slots count l h =
    sets-eq l (replicate count (pos 0)) 0 (rw (length-replicate count (pos 0), zero-add (length l)) h)
    ∙ ap (λ n. l ++ drop n (replicate count (pos 0))) (zero-add (length l)) ∙ ap (λ m. l ++ m) (drop-replicate (length l) count (pos 0))

module _ (bytes : List ℕ) (at : ℕ) where
  abbrev X : Read Room
  X = opening (drop at bytes)

  -- what the contract says of the answer and of the lent slots
  abbrev pub ReadsOpening : Result (ℕ × ℕ) ℕ → List ℤ → List ℤ → Type 0
  ReadsOpening r coefficients values = (r ≡ as_opening bytes X) × (coefficients ≡ coefficients_of X) × (values ≡ values_of X)

  -- the same, and nothing is said of the slots after a refusal: the caller clears them
  pub record ReadsSlots (r : Result (ℕ × ℕ) Refusal) (coefficients values : List ℤ) : Type 0 where
    pub answers : numbered r ≡ as_opening bytes X
    pub holds : OnOk r ((coefficients ≡ coefficients_of X) × (values ≡ values_of X))

  slots-refused : (r : Result (ℕ × ℕ) Refusal) (e : Refusal) {coefficients values : List ℤ} → IsErrAnd r (λ x. x ≡ e) →
      X ≡ refused (refusal_number e) → ReadsSlots r coefficients values
  slots-refused (Ok p) e i x = absurd i
  slots-refused (Err k) e i x = record { answers = passed-on (Err k) e i (rw x refl); holds = tt }

  -- a refusal, and then the slots are cleared
  pub slots-cleared : (r : Result (ℕ × ℕ) Refusal) {coefficients values cs vs : List ℤ} → ReadsSlots r coefficients values →
      is_err r ≡ true → cs ≡ replicate 128 (pos 0) → vs ≡ replicate 8 (pos 0) → ReadsOpening (numbered r) cs vs
  slots-cleared (Ok p) s t c v = absurd (true-not-false t refl)
  slots-cleared (Err e) {cs = cs} {vs = vs} s t c v = go X s.answers
    where
      go : (x : Read Room) → Err (refusal_number e) ≡ as_opening bytes x →
          (Err (refusal_number e) ≡ as_opening bytes x) × (cs ≡ coefficients_of x) × (vs ≡ values_of x)
      go (read a rest) q = let z : ◌≡◌ {A = ℕ} 0 1 = cc in absurd (omega arith)
      go (refused k) q = (q, c, v)

  pub slots-kept : (r : Result (ℕ × ℕ) Refusal) {coefficients values : List ℤ} → ReadsSlots r coefficients values → is_err r ≡ false →
      ReadsOpening (numbered r) coefficients values
  slots-kept (Ok p) s t = (s.answers, s.holds.0, s.holds.1)
  slots-kept (Err e) s t = absurd (true-not-false refl t)

  counts : SoundReader 1 (λ n. (1 ≤ n) × (n ≤ measures_most)) (field 4 1 measures_most)
  counts = sound-field 4 1 measures_most (omega arith) (omega arith)

  module _ (answer : Result (ℕ × ℕ) Refusal)
      (says : FieldAnswer (λ j e. e ≡ j) bytes OutOfRange 1 measures_most (number (drop at bytes)) answer) where
    from : numbered answer ≡ as_answer bytes (field 4 1 measures_most (drop at bytes))
    from = field-numbered bytes (drop at bytes) 1 measures_most OutOfRange answer says

    pub count-refused : {e : Refusal} (r : Result (ℕ × ℕ) Refusal) {coefficients values : List ℤ} → answer ≡ Err e →
        IsErrAnd r (λ x. x ≡ e) → ReadsSlots r coefficients values
    count-refused {e} r got i = slots-refused r e i (rw (answer-refused counts bytes at from got) refl)

    module _ {p : ℕ × ℕ} (got : answer ≡ Ok p) where
      abbrev count : ℕ
      count = p.0

      abbrev next : ℕ
      next = p.1

      counted : field 4 1 measures_most (drop at bytes) ≡ read count (drop next bytes)
      counted = (answer_read counts bytes at from got).0

      pub count-within : (p.0 ≤ 16) × (p.1 ≤ length bytes)
      count-within = ((counts.gives (drop at bytes) count (drop next bytes) counted).0.1, (answer_read counts bytes at from got).1)

      -- the rows, of the numbers that were read
      rows_are : (x : Read (List (List ℤ))) (y : Read (List ℤ)) → with flat x ≡ y → {k : ℕ} → y ≡ refused k → x ≡ refused k
      rows_are (read l rest) y e q = let z : ◌≡◌ {A = ℕ} 0 1 = cc in absurd (omega arith)
      rows_are (refused j) y e q = cc

      pub rows-refused : {k : ℕ} → times (count * 8) coefficient (drop next bytes) ≡ refused k → X ≡ refused k
      rows-refused {k} e = rw (counted, rows_are (times count (times variables coefficient) (drop next bytes)) _ (times-flat coefficient count variables (drop next bytes)) e)

      -- and the values after them
      module _ (after : ℕ) {l : List ℤ} (rows : times (count * 8) coefficient (drop next bytes) ≡ read l (drop after bytes)) where
        read-rows : (x : Read (List (List ℤ))) (y : Read (List ℤ)) → with flat x ≡ y → y ≡ read l (drop after bytes) → (m : List (List ℤ)) × (x ≡ read m (drop after bytes)) × (flat m ≡ l)
        read-rows (read m rest) y e q = (m, (let s : rest ≡ drop after bytes = cc in ap (read m) s), cc)
        read-rows (refused j) y e q = let z : ◌≡◌ {A = ℕ} 0 1 = cc in absurd (omega arith)

        measures_read : (m : List (List ℤ)) × (times count (times variables coefficient) (drop next bytes) ≡ read m (drop after bytes)) × (flat m ≡ l)
        measures_read = read-rows (times count (times variables coefficient) (drop next bytes)) _ (times-flat coefficient count variables (drop next bytes)) rows

        pub values-refused : {k : ℕ} → times 8 value (drop after bytes) ≡ refused k → X ≡ refused k
        values-refused e = rw (counted, measures_read.1, e)

        all_read : (end : ℕ) (v : List ℤ) → times 8 value (drop after bytes) ≡ read v (drop end bytes) → end ≤ length bytes →
            ReadsSlots (Ok (count, end)) (slots 128 l) v
        all_read end v e h =
            let m = measures_read in
            let n : length m.0 ≡ count = ((sound-times (times variables coefficient) (sound-times coefficient sound-coefficient variables) count).gives (drop next bytes) m.0 (drop after bytes) m.1).0.0 in
            let x : X ≡ read (opened m.0 v) (drop end bytes) = rw (counted, m.1, e) in
            record { answers = rw x (λ i. Ok (sym n i, sym (place_after bytes end h) i)); holds = (rw x (ap (slots 128) (sym m.2)), rw x) }

      -- ---- as the code has it: zeros are what the slots held before
      module _ {zeros zeros' : List ℤ} (zero-c : zeros ≡ replicate 128 (pos 0)) (zero-v : zeros' ≡ replicate 8 (pos 0)) where
        pub opening-no-rows : {e : Refusal} {rows : Result ℕ Refusal} (r : Result (ℕ × ℕ) Refusal) {cs cs' vs' : List ℤ} →
            Into (put_numbers 0) bytes zeros (times (p.0 * 8) (signed_field 100) (drop p.1 bytes)) (numbered rows) cs → rows ≡ Err e →
            IsErrAnd r (λ x. x ≡ e) → ReadsSlots r cs' vs'
        opening-no-rows {e} r s is i = slots-refused r e i (rows-refused (told-no (numbers-sound (count * 8) 100) next s is))

        module _ {after : ℕ} {cs : List ℤ} (c : ReadInto bytes p.1 100 0 (p.0 * 8) after zeros cs) where
          pub opening-no-values : {e : Refusal} {row : Result ℕ Refusal} (r : Result (ℕ × ℕ) Refusal) {vs vs' cs' vs'' : List ℤ} →
              Into (put_numbers 0) bytes vs (times 8 (signed_field 1_000_000) (drop after bytes)) (numbered row) vs' → row ≡ Err e →
              IsErrAnd r (λ x. x ≡ e) → ReadsSlots r cs' vs''
          opening-no-values {e} r s is i = slots-refused r e i (values-refused after c.reads
              (told-no (numbers-sound 8 1_000_000) after s is))

          pub opening-read : {end : ℕ} {vs : List ℤ} → ReadInto bytes after 1_000_000 0 8 end zeros' vs → ReadsSlots (Ok (p.0, end)) cs vs
          opening-read {end} {vs} v =
              let o = all_read after c.reads end v.what v.reads v.within in
              let few : length c.what ≤ 128 = omega (arith, c.good.0, count-within.0) in
              let cs-are : cs ≡ slots 128 c.what = c.slots ∙ put-sets 0 zeros c.what ∙ ap (λ z. sets z 0 c.what) zero-c
              ∙ stored-slots 128 c.what few in
              let none_after : ◌≡◌ {A = ℕ} (8 - length v.what) 0 = omega (arith, v.good.0) in
              let vs-are : vs ≡ v.what =
              v.slots ∙ put-sets 0 zeros' v.what ∙ ap (λ z. sets z 0 v.what) zero-v ∙ stored-slots 8 v.what (omega (arith, v.good.0))
              ∙ ap (λ n. v.what ++ replicate n (pos 0)) none_after ∙ append-nil v.what in
              record { answers = o.answers; holds = (cs-are ∙ o.holds.0, vs-are ∙ o.holds.1) }

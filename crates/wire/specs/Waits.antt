-- The numbers of a Wait, read into lent slots: the code's way of reading is the rules'.
use Rattle.std.specs.Prelude.{◌≡◌, refl, true, false, List, [], ◌∷◌, ◌++◌, ℕ, ◌+◌, ◌*◌, ◌-◌, ◌≤◌, ◌<◌, ℤ, pos, length, drop, set}
use Rattle.std.specs.Prelude.{replicate, Result, Ok, Err, is_err, IsErrAnd}
use Rattle.std.proofs.Common.{sym, ap, ◌∙◌, append-nil, arith}
use Rattle.std.proofs.lemmas.List.Edits.{sets}
use Rattle.rules.specs.Limits.{operator_most, parts_most}
use Rattle.rules.specs.Number.{Read, read, refused, Reader, pure, after, times, number, field, below, signed_field}
use Rattle.rules.specs.Condition.{Given}
use Rattle.rules.specs.Record.{atom, value, counted}
use Rattle.rules.specs.Laws.In.{true-not-false}
use Rattle.rules.specs.Laws.Bounds.{Each}
use Rattle.rules.specs.Laws.WellFormed.{GivenFits, Parts, sound-atom, sound-counted}
use Rattle.rules.specs.Laws.Readers.{SoundReader, sound-field, sound-below, sound-times, read_same, read-refused, refused-same}
use Rattle.fields.specs.Refusals.{refusal_number}
use Rattle.fields.specs.Answers.{as_answer, numbered, FieldAnswer, passed-on}
use Rattle.fields.specs.Fields.{field-numbered}
use Rattle.fields.specs.Places.{ReadTo, place_after, answer_read, answer-refused}
use Rattle.fields.specs.declared.refusal.Refusal.{Refusal}
use Rattle.fields.specs.declared.refusal.Refusal.TheVariants.{Unknown, OutOfRange}
use Rattle.wire.specs.Into.{Into, told, told-no, all-no, all_more}
use Rattle.wire.specs.Numbers.{ReadInto, put_numbers, put-sets, numbers-sound}
use Rattle.wire.specs.Openings.{stored-slots}
use Rattle.wire.specs.WaitSlots.{AtomSlots, atom_slots, put_atom, put_atoms, WaitSlots, wait_slots, put_alternative, put_alternatives}
use Rattle.wire.specs.WaitSlots.{no_locals, no_slots, Body, numbers, as_wait, ReadsWait, ReadsBody}

-- a refusal that is passed on says nothing of the slots
into-no : {A S : Type 0} {put : S → A → S} {bytes : List ℕ} {s : S} {x : Read A} (r : Result ℕ Refusal) (e : Refusal) {s' : S} →
    IsErrAnd r (λ y. y ≡ e) → x ≡ refused (refusal_number e) → Into put bytes s x (numbered r) s'
into-no r e i x = record { is = rw x (passed-on r e i refl) }

-- ---- an atom, as the code reads it
module _ {A : Type 0} (p : Reader A) (l : List ℕ) where
  one-read : {ns : List A} {rest : List ℕ} → times 1 p l ≡ read ns rest → (a : A) × (p l ≡ read a rest) × (ns ≡ a ∷ [])
  one-read {ns} {rest} e = go (p l) refl e
    where
      go : (x : Read A) → p l ≡ x → after x (λ a bytes. after (read [] bytes) (λ m. pure (a ∷ m))) ≡ read ns rest → (a : A) × (p l ≡ read a rest) × (ns ≡ a ∷ [])
      go (read a more) d q = (a, d ∙ ap (read a) (read_same q).1, sym (read_same q).0)
      go (refused k) d q = read-refused (sym q)

  one-refused : {k : ℕ} → times 1 p l ≡ refused k → p l ≡ refused k
  one-refused {k} e = go (p l) refl e
    where
      go : (x : Read A) → p l ≡ x → after x (λ a bytes. after (read [] bytes) (λ m. pure (a ∷ m))) ≡ refused k → p l ≡ refused k
      go (read a more) d q = read-refused q
      go (refused j) d q = d ∙ ap refused (refused-same q)

operators : SoundReader 1 (λ n. (1 ≤ n) × (n ≤ operator_most)) (field 3 1 operator_most)
operators = sound-field 3 1 operator_most (omega arith) (omega arith)

module _ (measures : ℕ) (bytes : List ℕ) (at slot : ℕ) {first : Result (ℕ × ℕ) Refusal}
    (from : numbered first ≡ as_answer bytes (below measures (drop at bytes))) where
  pub atom-no-measure : {e : Refusal} (r : Result ℕ Refusal) {s s' : AtomSlots} → first ≡ Err e → IsErrAnd r (λ y. y ≡ e) →
      Into (put_atom slot) bytes s (atom measures (drop at bytes)) (numbered r) s'
  atom-no-measure {e} r got i = into-no r e i (rw (answer-refused (sound-below measures) bytes at from got) refl)

  module _ {p : ℕ × ℕ} (got : first ≡ Ok p) where
    measure-is : ReadTo (sound-below measures) bytes at p.0 p.1
    measure-is = answer_read (sound-below measures) bytes at from got

    pub measure-small : p.0 < measures
    measure-small = ((sound-below measures).gives (drop at bytes) p.0 (drop p.1 bytes) measure-is.0).0

    module _ (second : Result (ℕ × ℕ) Refusal)
        (says : FieldAnswer (λ j e. e ≡ j) bytes Unknown 1 operator_most (number (drop p.1 bytes)) second) where
      from₂ : numbered second ≡ as_answer bytes (field 3 1 operator_most (drop p.1 bytes))
      from₂ = field-numbered bytes (drop p.1 bytes) 1 operator_most Unknown second says

      pub atom-no-operator : {e : Refusal} (r : Result ℕ Refusal) {s s' : AtomSlots} → second ≡ Err e → IsErrAnd r (λ y. y ≡ e) →
          Into (put_atom slot) bytes s (atom measures (drop at bytes)) (numbered r) s'
      atom-no-operator {e} r is i = into-no r e i (rw (measure-is.0, answer-refused operators bytes p.1 from₂ is) refl)

      module _ {q : ℕ × ℕ} (is : second ≡ Ok q) where
        operator-is : ReadTo operators bytes p.1 q.0 q.1
        operator-is = answer_read operators bytes p.1 from₂ is

        pub operator-small : q.0 ≤ 6
        operator-small = (operators.gives (drop p.1 bytes) q.0 (drop q.1 bytes) operator-is.0).0.1

        pub operator-place : q.1 ≤ length bytes
        operator-place = operator-is.1

        pub atom-no-row : {e : Refusal} {row : Result ℕ Refusal} (r : Result ℕ Refusal) {cs cs' : List ℤ} {s s' : AtomSlots} →
            Into (put_numbers (slot * 4)) bytes cs (times 4 (signed_field 100) (drop q.1 bytes)) (numbered row) cs' → row ≡ Err e →
            IsErrAnd r (λ y. y ≡ e) → Into (put_atom slot) bytes s (atom measures (drop at bytes)) (numbered r) s'
        atom-no-row {e} r st bad i = into-no r e i (rw (measure-is.0, operator-is.0, told-no (numbers-sound 4 100) q.1 st bad) refl)

        module _ {third : ℕ} {cs cs' : List ℤ} (c : ReadInto bytes q.1 100 (slot * 4) 4 third cs cs') where
          pub atom-no-constant : {e : Refusal} {one : Result ℕ Refusal} (r : Result ℕ Refusal) {ks ks' : List ℤ} {s s' : AtomSlots} →
              Into (put_numbers slot) bytes ks (times 1 (signed_field 1_000_000) (drop third bytes)) (numbered one) ks' → one ≡ Err e →
              IsErrAnd r (λ y. y ≡ e) → Into (put_atom slot) bytes s (atom measures (drop at bytes)) (numbered r) s'
          atom-no-constant {e} r st bad i = into-no r e i (rw (
            measure-is.0,
            operator-is.0,
            c.reads,
            one-refused value (drop third bytes)
                (told-no (numbers-sound 1 1_000_000) third st bad),
          ) refl)

          pub atom-read : {end : ℕ} {ks ks' : List ℤ} {ms os : List ℕ} → ReadInto bytes third 1_000_000 slot 1 end ks ks' →
              Into (put_atom slot) bytes (atom_slots ms os cs ks) (atom measures (drop at bytes)) (Ok end)
              (atom_slots (set ms slot p.0) (set os slot q.0) cs' ks')
          atom-read {end} {ks} {ks'} {ms} {os} k =
              let v = one-read value (drop third bytes) k.reads in
              let g : Given = record { measure = p.0; operator = q.0; coefficients = c.what; constant = v.0 } in
              let x : atom measures (drop at bytes) ≡ read g (drop end bytes) = rw (measure-is.0, operator-is.0, c.reads, v.1) in
              record {
                is = rw x (
                  ap Ok (sym (place_after bytes end k.within)),
                  λ i. atom_slots (set ms slot p.0) (set os slot q.0)
                      (c.slots i) ((k.slots ∙ ap (put_numbers slot ks) v.2) i),
                );
              }

-- ---- atoms, as the code reads them
pub atoms-sound : (count measures : ℕ) → SoundReader 0 (λ l. (length l ≡ count) × Each (GivenFits measures) l) (times count (atom measures))
atoms-sound count measures = sound-times (atom measures) (sound-atom measures) count

module _ (measures : ℕ) (bytes : List ℕ) (at slot count : ℕ) {s s₁ : AtomSlots} {one : Result ℕ Refusal}
    (first : Into (put_atom slot) bytes s (atom measures (drop at bytes)) (numbered one) s₁) (some_left : count ≡ 0 → ⊥) where
  pub atoms-no : {e : Refusal} (r : Result ℕ Refusal) {s' : AtomSlots} → one ≡ Err e → IsErrAnd r (λ y. y ≡ e) →
      Into (put_atoms slot) bytes s (times count (atom measures) (drop at bytes)) (numbered r) s'
  atoms-no {e} r is i = all-no (sound-atom measures) put_atom bytes at slot count some_left (told-no (sound-atom measures) at first is)
      (passed-on r e i refl)

  pub atoms-more : {next : ℕ} {r : Result ℕ ℕ} {s' : AtomSlots} → one ≡ Ok next →
      Into (put_atoms (slot + 1)) bytes s₁ (times (count - 1) (atom measures) (drop next bytes)) r s' →
      Into (put_atoms slot) bytes s (times count (atom measures) (drop at bytes)) r s'
  atoms-more {next} e i = let t = told (sound-atom measures) at first e in all_more (sound-atom measures) put_atom bytes at slot count some_left next t.reads t.slots i

pub atom-within : (measures : ℕ) (bytes : List ℕ) (at slot : ℕ) {s s₁ : AtomSlots} {one : Result ℕ Refusal} {next : ℕ} →
    Into (put_atom slot) bytes s (atom measures (drop at bytes)) (numbered one) s₁ → one ≡ Ok next → next ≤ length bytes
atom-within measures bytes at slot i e = (told (sound-atom measures) at i e).within

-- ---- alternatives, as the code reads them
parts : SoundReader 1 (λ n. (1 ≤ n) × (n ≤ parts_most)) (field 4 1 parts_most)
parts = sound-field 4 1 parts_most (omega arith) (omega arith)

module _ (bytes : List ℕ) (at : ℕ) (answer : Result (ℕ × ℕ) Refusal)
    (says : FieldAnswer (λ j e. e ≡ j) bytes OutOfRange 1 parts_most (number (drop at bytes)) answer) where
  part-count : numbered answer ≡ as_answer bytes (field 4 1 parts_most (drop at bytes))
  part-count = field-numbered bytes (drop at bytes) 1 parts_most OutOfRange answer says

  count-refused : {e : Refusal} → answer ≡ Err e → field 4 1 parts_most (drop at bytes) ≡ refused (refusal_number e)
  count-refused = answer-refused parts bytes at part-count

  count-is : {p : ℕ × ℕ} → answer ≡ Ok p → ReadTo parts bytes at p.0 p.1
  count-is got = answer_read parts bytes at part-count got

  pub atoms-few : {p : ℕ × ℕ} → answer ≡ Ok p → (p.0 ≤ 4) × (p.1 ≤ length bytes)
  atoms-few {p} got = let t = count-is got in ((parts.gives (drop at bytes) p.0 (drop p.1 bytes) t.0).0.1, t.1)

  -- a condition's alternatives are counted as an alternative's atoms are
  pub wait-few : {p : ℕ × ℕ} → answer ≡ Ok p → (p.0 ≤ 4) × (p.1 ≤ length bytes)
  wait-few = atoms-few

module _ (measures : ℕ) (bytes : List ℕ) (at alternative count : ℕ) (answer : Result (ℕ × ℕ) Refusal)
    (says : FieldAnswer (λ j e. e ≡ j) bytes OutOfRange 1 parts_most (number (drop at bytes)) answer) (some_left : count ≡ 0 → ⊥) where
  abbrev one-alternative : Reader (List Given)
  one-alternative = counted (atom measures)

  pub alternatives-no-count : {e : Refusal} (r : Result ℕ Refusal) {s s' : WaitSlots} → answer ≡ Err e → IsErrAnd r (λ y. y ≡ e) →
      Into (put_alternatives alternative) bytes s (times count one-alternative (drop at bytes)) (numbered r) s'
  alternatives-no-count {e} r got i = all-no (sound-counted (atom measures) (sound-atom measures)) put_alternative bytes at alternative
      count some_left (rw (count-refused bytes at answer says got) refl) (passed-on r e i refl)

  module _ {p : ℕ × ℕ} (got : answer ≡ Ok p) {s s₁ : AtomSlots} {row : Result ℕ Refusal}
      (rows : Into (put_atoms (alternative * 4)) bytes s (times p.0 (atom measures) (drop p.1 bytes)) (numbered row) s₁) where
    pub alternatives-no-atoms : {e : Refusal} (r : Result ℕ Refusal) {w w' : WaitSlots} → row ≡ Err e → IsErrAnd r (λ y. y ≡ e) →
        Into (put_alternatives alternative) bytes w (times count one-alternative (drop at bytes)) (numbered r) w'
    alternatives-no-atoms {e} r is i =
        let d : one-alternative (drop at bytes) ≡ refused (refusal_number e) =
        rw ((count-is bytes at answer says got).0, told-no (atoms-sound p.0 measures) p.1 rows is) refl in
        all-no (sound-counted (atom measures) (sound-atom measures)) put_alternative bytes at alternative count some_left d
        (passed-on r e i refl)

    pub row_within : {next : ℕ} → row ≡ Ok next → next ≤ length bytes
    row_within e = (told (atoms-sound p.0 measures) p.1 rows e).within

    pub alternatives-more : {next : ℕ} {cs cs' : List ℕ} {r : Result ℕ ℕ} {w' : WaitSlots} → row ≡ Ok next → cs' ≡ cs →
        Into (put_alternatives (alternative + 1)) bytes (wait_slots (set cs' alternative p.0) s₁)
        (times (count - 1) one-alternative (drop next bytes)) r w' →
        Into (put_alternatives alternative) bytes (wait_slots cs s) (times count one-alternative (drop at bytes)) r w'
    alternatives-more {next} {cs} e same more =
        let t = told (atoms-sound p.0 measures) p.1 rows e in
        let d : one-alternative (drop at bytes) ≡ read t.what (drop next bytes) = rw (count-is bytes at answer says got).0 t.reads in
        all_more (sound-counted (atom measures) (sound-atom measures)) put_alternative bytes at alternative count some_left next d
        (λ j. wait_slots (set (same j) alternative (sym t.good.0 j)) (t.slots j)) more

-- ---- the whole, as the code reads it, into slots that are 0
module _ (bytes : List ℕ) (x : Read Body) where
  body-refused : (r : Result (ℕ × ℕ) Refusal) (e : Refusal) {l : List ℤ} {s : WaitSlots} → IsErrAnd r (λ y. y ≡ e) →
      x ≡ refused (refusal_number e) → ReadsBody bytes x r l s
  body-refused (Ok p) e i d = absurd i
  body-refused (Err k) e i d = record { answers = passed-on (Err k) e i (rw d refl); holds = tt }

  -- a refusal, and then the slots are cleared
  pub body-cleared : (r : Result (ℕ × ℕ) Refusal) {l l' : List ℤ} {s s' : WaitSlots} → ReadsBody bytes x r l s → is_err r ≡ true →
      (l' ≡ no_locals) × (s' ≡ no_slots) → ReadsWait bytes x (numbered r) l' s'
  body-cleared (Ok p) b t z = absurd (true-not-false t refl)
  body-cleared (Err e) {l' = l'} {s' = s'} b t z = go x b.answers
    where
      go : (y : Read Body) → Err (refusal_number e) ≡ as_wait bytes y → ReadsWait bytes y (Err (refusal_number e)) l' s'
      go (read a rest) q = let n : ◌≡◌ {A = ℕ} 0 1 = cc in absurd (omega arith)
      go (refused k) q = (q, z.0, z.1)

  pub body-kept : (r : Result (ℕ × ℕ) Refusal) {l : List ℤ} {s : WaitSlots} → ReadsBody bytes x r l s → is_err r ≡ false →
      ReadsWait bytes x (numbered r) l s
  body-kept (Ok p) b t = (b.answers, b.holds.0, b.holds.1)
  body-kept (Err e) b t = absurd (true-not-false refl t)

module _ (measures : ℕ) (bytes : List ℕ) (at : ℕ) {zero-l l : List ℤ} {row : Result ℕ Refusal} (cleared-l : zero-l ≡ no_locals)
    (locals-in : Into (put_numbers 0) bytes zero-l (times 4 (signed_field 1_000_000) (drop at bytes)) (numbered row) l) where
  pub wait-no-locals : {e : Refusal} (r : Result (ℕ × ℕ) Refusal) {l' : List ℤ} {s' : WaitSlots} → row ≡ Err e → IsErrAnd r (λ y. y ≡ e) →
      ReadsBody bytes (numbers measures (drop at bytes)) r l' s'
  wait-no-locals {e} r is i = body-refused bytes (numbers measures (drop at bytes)) r e i
      (rw (told-no (numbers-sound 4 1_000_000) at locals-in is) refl)

  module _ {next : ℕ} (located : row ≡ Ok next) where
    locals-told : ReadInto bytes at 1_000_000 0 4 next zero-l l
    locals-told = told (numbers-sound 4 1_000_000) at locals-in located

    module _ (answer : Result (ℕ × ℕ) Refusal)
        (says : FieldAnswer (λ j e. e ≡ j) bytes OutOfRange 1 parts_most (number (drop next bytes)) answer) where
      pub wait-no-count : {e : Refusal} (r : Result (ℕ × ℕ) Refusal) {l' : List ℤ} {s' : WaitSlots} → answer ≡ Err e →
          IsErrAnd r (λ y. y ≡ e) → ReadsBody bytes (numbers measures (drop at bytes)) r l' s'
      wait-no-count {e} r is i = body-refused bytes (numbers measures (drop at bytes)) r e i
          (rw (locals-told.reads, count-refused bytes next answer says is) refl)

      module _ {p : ℕ × ℕ} (got : answer ≡ Ok p) where
        alternatives-sound : SoundReader 0 (λ g. (length g ≡ p.0) × Each (Parts (GivenFits measures)) g)
            (times p.0 (counted (atom measures)))
        alternatives-sound = sound-times (counted (atom measures)) (sound-counted (atom measures) (sound-atom measures)) p.0

        module _ {zero-s s : WaitSlots} {rest : Result ℕ Refusal} (cleared-s : zero-s ≡ no_slots)
            (rest_in : Into (put_alternatives 0) bytes zero-s (times p.0 (counted (atom measures)) (drop p.1 bytes)) (numbered rest) s)
          where
            pub wait-no-alternatives : {e : Refusal} (r : Result (ℕ × ℕ) Refusal) {l' : List ℤ} {s' : WaitSlots} → rest ≡ Err e →
                IsErrAnd r (λ y. y ≡ e) → ReadsBody bytes (numbers measures (drop at bytes)) r l' s'
            wait-no-alternatives {e} r is i = body-refused bytes (numbers measures (drop at bytes)) r e i
                (rw (locals-told.reads, (count-is bytes next answer says got).0, told-no alternatives-sound p.1 rest_in is) refl)

            pub wait-read : {end : ℕ} {l' : List ℤ} → rest ≡ Ok end → l' ≡ l →
                ReadsBody bytes (numbers measures (drop at bytes)) (Ok (p.0, end)) l' s
            wait-read {end} e same =
                let g = told alternatives-sound p.1 rest_in e in
                let v = locals-told in
                let x : numbers measures (drop at bytes) ≡ read (record { locals = v.what; condition = g.what }) (drop end bytes) =
                rw (v.reads, (count-is bytes next answer says got).0, g.reads) in
                let none_after : ◌≡◌ {A = ℕ} (4 - length v.what) 0 = omega (arith, v.good.0) in
                let l-is : l ≡ v.what =
                v.slots ∙ put-sets 0 zero-l v.what ∙ ap (λ z. sets z 0 v.what) cleared-l ∙ stored-slots 4 v.what (omega (arith, v.good.0))
                ∙ ap (λ n. v.what ++ replicate n (pos 0)) none_after ∙ append-nil v.what in
                record {
                  answers = rw x (λ i. Ok (sym g.good.0 i, sym (place_after bytes end g.within) i));
                  holds = (rw x (same ∙ l-is), rw x (g.slots ∙ ap (λ z. put_alternatives 0 z g.what) cleared-s));
                }

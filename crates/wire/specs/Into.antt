-- Reading into lent slots: what was read is put into them, and the answer is the place after it; or the refusal, and then nothing is said of
-- the slots, since the callers clear them.
use Rattle.std.specs.Prelude.{◌≡◌, refl, List, [], ◌∷◌, ℕ, suc, ◌+◌, ◌-◌, ◌≤◌, ◌<◌, length, drop, Result, Ok, Err}
use Rattle.std.proofs.Common.{sym, ap, ◌∙◌, add-one, arith}
use Rattle.rules.specs.Number.{Read, read, refused, Reader, after, pure, times}
use Rattle.rules.specs.Laws.Readers.{SoundReader}
use Rattle.fields.specs.Places.{at_place, place_after}
use Rattle.fields.specs.Answers.{place_of, numbered}
use Rattle.fields.specs.Refusals.{refusal_number}
use Rattle.fields.specs.declared.refusal.Refusal.{Refusal}

-- by what the rules' reader gives: s are the slots before, and s' after
abbrev pub IntoIs : {A S : Type 0} → (S → A → S) → List ℕ → S → Read A → Result ℕ ℕ → S → Type 0
IntoIs put bytes s (read a rest) r s' = (r ≡ Ok (place_of bytes rest)) × (s' ≡ put s a)
IntoIs put bytes s (refused k) r s' = r ≡ Err k

pub record Into {A S : Type 0} (put : S → A → S) (bytes : List ℕ) (s : S) (x : Read A) (r : Result ℕ ℕ) (s' : S) : Type 0 where
  pub is : IntoIs put bytes s x r s'

-- what the answer tells, if it is a place
pub record Told {A S : Type 0} (p : Reader A) (P : A → Type 0) (put : S → A → S) (bytes : List ℕ) (at next : ℕ) (s s' : S) : Type 0 where
  pub what : A
  pub reads : p (drop at bytes) ≡ read what (drop next bytes)
  pub good : P what
  pub within : next ≤ length bytes
  pub slots : s' ≡ put s what

module _ {A S : Type 0} {least : ℕ} {P : A → Type 0} {p : Reader A} (sound : SoundReader least P p) {put : S → A → S} {bytes : List ℕ}
    (at : ℕ) {s : S} {r : Result ℕ Refusal} {s' : S} (i : Into put bytes s (p (drop at bytes)) (numbered r) s') where
  pub told : {next : ℕ} → r ≡ Ok next → Told p P put bytes at next s s'
  told {next} got = go (p (drop at bytes)) refl i.is
    where
      go : (x : Read A) → p (drop at bytes) ≡ x → IntoIs put bytes s x (numbered r) s' → Told p P put bytes at next s s'
      go (read a rest) d h =
          let e : numbered r ≡ Ok next = ap numbered got in
          let n : next ≡ place_of bytes rest = cc in
          let g = sound.gives (drop at bytes) a rest d in
          record {
            what = a;
            reads = d ∙ ap (read a) (at_place bytes at g.1 ∙ ap (λ j. drop j bytes) (sym n));
            good = g.0;
            within = omega arith;
            slots = h.1;
          }
      go (refused k) d h =
          let e : numbered r ≡ Ok next = ap numbered got in
          let z : ◌≡◌ {A = ℕ} 0 1 = cc in absurd (omega arith)

  pub told-no : {e : Refusal} → r ≡ Err e → p (drop at bytes) ≡ refused (refusal_number e)
  told-no {e} got = go (p (drop at bytes)) refl i.is
    where
      go : (x : Read A) → p (drop at bytes) ≡ x → IntoIs put bytes s x (numbered r) s' → p (drop at bytes) ≡ refused (refusal_number e)
      go (read a rest) d h =
          let i : numbered r ≡ Err (refusal_number e) = ap numbered got in
          let z : ◌≡◌ {A = ℕ} 0 1 = cc in absurd (omega arith)
      go (refused j) d h =
          let i : numbered r ≡ Err (refusal_number e) = ap numbered got in
          let a : j ≡ refusal_number e = cc in d ∙ ap refused a

-- ---- one after the other
-- slots numbered from some on take each in turn
abbrev pub put_all : {A S : Type 0} → (ℕ → S → A → S) → ℕ → S → List A → S
put_all put slot s [] = s
put_all put slot s (a ∷ l) = put_all put (suc slot) (put slot s a) l

module _ {A S : Type 0} {least : ℕ} {P : A → Type 0} {p : Reader A} (sound : SoundReader least P p) (put : ℕ → S → A → S) (bytes : List ℕ) (at slot count : ℕ) where
  pub all_none : {s : S} → count ≡ 0 → (count ≡ 0 → at ≤ length bytes) →
      Into (put_all put slot) bytes s (times count p (drop at bytes)) (Ok at) s
  all_none e h = record { is = rw e (ap Ok (sym (place_after bytes at (h e))), refl) }

  module _ (some_left : count ≡ 0 → ⊥) where
    one_more : count ≡ suc (count - 1)
    one_more = omega (arith, some_left)

    pub all-no : {r : Result ℕ ℕ} {k : ℕ} {s s' : S} → p (drop at bytes) ≡ refused k → r ≡ Err k →
        Into (put_all put slot) bytes s (times count p (drop at bytes)) r s'
    all-no d e = record { is = rw (one_more, d) e }

    -- the first was read and put, and then the others
    pub all_more : (next : ℕ) {a : A} {s s₁ s' : S} {r : Result ℕ ℕ} → p (drop at bytes) ≡ read a (drop next bytes) → s₁ ≡ put slot s a →
        Into (put_all put (slot + 1)) bytes s₁ (times (count - 1) p (drop next bytes)) r s' → Into (put_all put slot) bytes s (times count p (drop at bytes)) r s'
    all_more next {a} {s} {s₁} {s'} {r} d e i = record { is = rw (one_more, d) (go (times (count - 1) p (drop next bytes)) (rw (add-one slot, e) at i.is)) }
      where
        go : (x : Read (List A)) → IntoIs (put_all put (suc slot)) bytes (put slot s a) x r s' → IntoIs (put_all put slot) bytes s (after x (λ l. pure (a ∷ l))) r s'
        go (read l rest) h = h
        go (refused k) h = h

-- ---- one after the other, as a loop reads them: up to this slot so far, and from this place on
pub record SoFar {A S : Type 0} (p : Reader A) (put : ℕ → S → A → S) (bytes : List ℕ) (at first count : ℕ) (s : S) (next slot : ℕ)
    (s₁ : S) : Type 0 where
  -- how the others are read is how all are
  pub rest : (r : Result ℕ ℕ) (s' : S) → Into (put_all put slot) bytes s₁ (times (first + count - slot) p (drop next bytes)) r s' →
      Into (put_all put first) bytes s (times count p (drop at bytes)) r s'
  pub within : first + count ≤ slot → next ≤ length bytes

pub none-read : {A S : Type 0} (p : Reader A) (put : ℕ → S → A → S) (bytes : List ℕ) (at first count : ℕ) (s : S) →
    (count ≡ 0 → at ≤ length bytes) → SoFar p put bytes at first count s at first s
none-read p put bytes at first count s h = record { rest = λ r s' i. rw all_left at i; within = λ e. h (omega (arith, e)) }
  where
    all_left : first + count - first ≡ count
    all_left = omega arith

module _ {A S : Type 0} {p : Reader A} {put : ℕ → S → A → S} {bytes : List ℕ} {at first count : ℕ} {s : S} {next slot : ℕ} {s₁ : S}
    (so_far : SoFar p put bytes at first count s next slot s₁) where
  pub more_read : {next' : ℕ} {s₂ : S} → slot < first + count → next' ≤ length bytes →
      ((r : Result ℕ ℕ) (s' : S) → Into (put_all put (slot + 1)) bytes s₂ (times (first + count - slot - 1) p (drop next' bytes)) r s' →
      Into (put_all put slot) bytes s₁ (times (first + count - slot) p (drop next bytes)) r s') →
      SoFar p put bytes at first count s next' (slot + 1) s₂
  more_read few w step = record { rest = λ r s' i. so_far.rest r s' (step r s' (rw fewer at i)); within = λ l. w }
    where
      fewer : first + count - (slot + 1) ≡ first + count - slot - 1
      fewer = omega arith

  pub all-read : {least : ℕ} {P : A → Type 0} → SoundReader least P p → first + count ≤ slot →
      Into (put_all put first) bytes s (times count p (drop at bytes)) (Ok next) s₁
  all-read sound h = so_far.rest (Ok next) s₁ (all_none sound put bytes next slot (first + count - slot) (omega (arith, h))
      (λ e. so_far.within h))

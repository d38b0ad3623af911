-- A field is its number's bytes and then its range, in the order in which the code judges them.
use Rattle.std.specs.Prelude.{◌≡◌, refl, Bool, true, false, ◌&&◌, List, ℕ, ◌+◌, ◌<◌, ◌≤◌, ◌/◌, ◌%◌, leb, ltb, ℤ, nat_abs, Result, Ok, Err}
use Rattle.std.specs.Prelude.{if◌then◌else◌}
use Rattle.std.proofs.Common.{sym, ap, ◌∙◌, arith, lt-ltb, le-ltb, le-leb}
use Rattle.std.proofs.lemmas.Bool.{lt-leb}
use Rattle.rules.specs.Number.{Read, Reader, read, refused, number, signed, only, after, field, below, signed_field}
use Rattle.integers.specs.Mapping.{size_of}
use Rattle.fields.specs.Answers.{place_of, as_answer, numbered, FieldAnswer}
use Rattle.fields.specs.Refusals.{refusal_number, same_number}
use Rattle.fields.specs.declared.refusal.Refusal.{Refusal}

-- ---- signed numbers
pub distance : (n : ℕ) → nat_abs (signed n) ≡ n / 2 + n % 2
distance n = omega (arith, size_of n)

-- ---- a number was read, and then judged
module _ (bytes l : List ℕ) {r : Result (ℕ × ℕ) Refusal} (from : numbered r ≡ as_answer bytes (number l)) where
  module _ {p : ℕ × ℕ} (got : r ≡ Ok p) where
    -- judged by a test, as every field is
    judged : (t : ℕ → Bool) (k : ℕ) → t p.0 ≡ true → Ok p ≡ as_answer bytes (after (number l) (λ m. only (t m) k m))
    judged t k e = go (number l) (sym (ap numbered got) ∙ from)
      where
        go : (x : Read ℕ) → Ok p ≡ as_answer bytes x → Ok p ≡ as_answer bytes (after x (λ m. only (t m) k m))
        go (read m rest) q = let s : p.0 ≡ m = cc in q ∙ rw (ap t (sym s) ∙ e)
        go (refused j) q = let z : ◌≡◌ {A = ℕ} 0 1 = cc in absurd (omega arith)

    misjudged : (t : ℕ → Bool) (k : ℕ) → t p.0 ≡ false → Err k ≡ as_answer bytes (after (number l) (λ m. only (t m) k m))
    misjudged t k e = go (number l) (sym (ap numbered got) ∙ from)
      where
        go : (x : Read ℕ) → Ok p ≡ as_answer bytes x → Err k ≡ as_answer bytes (after x (λ m. only (t m) k m))
        go (read m rest) q = let s : p.0 ≡ m = cc in rw (ap t (sym s) ∙ e)
        go (refused j) q = let z : ◌≡◌ {A = ℕ} 0 1 = cc in absurd (omega arith)

    pub field-got : (k low high : ℕ) → low ≤ p.0 → p.0 ≤ high → Ok p ≡ as_answer bytes (field k low high l)
    field-got k low high a b = judged (λ m. leb low m && leb m high) k (rw (le-leb low p.0 a, le-leb p.0 high b))

    pub field-low : (k low high : ℕ) → p.0 < low → Err k ≡ as_answer bytes (field k low high l)
    field-low k low high a = misjudged (λ m. leb low m && leb m high) k (rw (lt-leb low p.0 a))

    pub field-high : (k low high : ℕ) → low ≤ p.0 → high < p.0 → Err k ≡ as_answer bytes (field k low high l)
    field-high k low high a b = misjudged (λ m. leb low m && leb m high) k (rw (le-leb low p.0 a, lt-leb p.0 high b))

    pub below-got : (bound : ℕ) → p.0 < bound → Ok p ≡ as_answer bytes (below bound l)
    below-got bound a = judged (λ m. ltb m bound) 4 (lt-ltb p.0 bound a)

    pub below-high : (bound : ℕ) → bound ≤ p.0 → Err 4 ≡ as_answer bytes (below bound l)
    below-high bound a = misjudged (λ m. ltb m bound) 4 (le-ltb p.0 bound a)

    pub signed-got : {z : ℤ} (most : ℕ) → p.0 / 2 + p.0 % 2 ≤ most → z ≡ signed p.0 → Ok (z, p.1) ≡ as_answer bytes (signed_field most l)
    signed-got {z} most h e = go (number l) (sym (ap numbered got) ∙ from)
      where
        go : (x : Read ℕ) → Ok p ≡ as_answer bytes x →
            Ok (z, p.1) ≡ as_answer bytes (after x (λ m. only (leb (nat_abs (signed m)) most) 4 (signed m)))
        go (read m rest) q =
            let s : p ≡ (m, place_of bytes rest) = cc in
            let t : z ≡ signed m = e ∙ ap (λ x. signed x.0) s in
            let u : Ok (z, p.1) ≡ as_answer bytes (read (signed m) rest) = ap Ok (rw (t, s) refl) in
            let n : p.0 ≡ m = ap (λ x. x.0) s in
            u ∙ rw (le-leb (nat_abs (signed m)) most (omega (arith, distance m)))
        go (refused j) q = let z : ◌≡◌ {A = ℕ} 0 1 = cc in absurd (omega arith)

    pub signed-far : (most : ℕ) → most < p.0 / 2 + p.0 % 2 → Err 4 ≡ as_answer {A = ℤ} bytes (signed_field most l)
    signed-far most h = go (number l) (sym (ap numbered got) ∙ from)
      where
        go : (x : Read ℕ) → Ok p ≡ as_answer bytes x →
            Err 4 ≡ as_answer {A = ℤ} bytes (after x (λ m. only (leb (nat_abs (signed m)) most) 4 (signed m)))
        go (read m rest) q = let s : p.0 ≡ m = cc in rw (lt-leb (nat_abs (signed m)) most (omega (arith, distance m)))
        go (refused j) q = let z : ◌≡◌ {A = ℕ} 0 1 = cc in absurd (omega arith)

  -- a refusal of the number's bytes is the refusal of all that is read by it
  module _ {e : Refusal} (got : r ≡ Err e) where
    unread : {B : Type 0} (f : ℕ → Reader B) → Err (refusal_number e) ≡ as_answer bytes (after (number l) f)
    unread f = go (number l) (sym (ap numbered got) ∙ from)
      where
        go : (x : Read ℕ) → Err (refusal_number e) ≡ as_answer bytes x → Err (refusal_number e) ≡ as_answer bytes (after x f)
        go (read m rest) q = let z : ◌≡◌ {A = ℕ} 0 1 = cc in absurd (omega arith)
        go (refused i) q = let s : refusal_number e ≡ i = cc in ap Err s

    pub field-unread : (k low high : ℕ) → Err (refusal_number e) ≡ as_answer bytes (field k low high l)
    field-unread k low high = unread (λ m. only (leb low m && leb m high) k m)

    pub below-unread : (bound : ℕ) → Err (refusal_number e) ≡ as_answer bytes (below bound l)
    below-unread bound = unread (λ m. only (ltb m bound) 4 m)

    pub signed-unread : (most : ℕ) → Err (refusal_number e) ≡ as_answer {A = ℤ} bytes (signed_field most l)
    signed-unread most = unread (λ m. only (leb (nat_abs (signed m)) most) 4 (signed m))

-- ---- a field whose refusal is this crate's, or document 01's number
module _ (bytes l : List ℕ) (low high : ℕ) where
  pub field-numbered : (refusal : Refusal) (r : Result (ℕ × ℕ) Refusal) → FieldAnswer (λ j e. e ≡ j) bytes refusal low high (number l) r →
      numbered r ≡ as_answer bytes (field (refusal_number refusal) low high l)
  field-numbered refusal r = go (number l)
    where
      picked : (n : ℕ) (rest : List ℕ) (t : Bool) → r ≡ (if t then Ok (n, place_of bytes rest) else Err refusal) →
          numbered r ≡ as_answer bytes (only t (refusal_number refusal) n rest)
      picked n rest true e = ap numbered e
      picked n rest false e = ap numbered e

      unread : (k : ℕ) (r : Result (ℕ × ℕ) Refusal) → FieldAnswer (λ j e. e ≡ j) bytes refusal low high (refused k) r → numbered r ≡ Err k
      unread k (Ok p) a = elim a [ ]
      unread k (Err e) a = ap Err (ap refusal_number a.2 ∙ a.1)

      go : (x : Read ℕ) → FieldAnswer (λ j e. e ≡ j) bytes refusal low high x r →
          numbered r ≡ as_answer bytes (after x (λ m. only (leb low m && leb m high) (refusal_number refusal) m))
      go (read n rest) e = picked n rest (leb low n && leb n high) e
      go (refused k) a = unread k r a

  -- and back: the two say the same
  pub field-says : (refusal : Refusal) (r : Result (ℕ × ℕ) Refusal) → numbered r ≡ as_answer bytes (field (refusal_number refusal) low high l) →
      FieldAnswer (λ j e. e ≡ j) bytes refusal low high (number l) r
  field-says refusal r = go (number l) r
    where
      picked : (n : ℕ) (rest : List ℕ) (t : Bool) (r : Result (ℕ × ℕ) Refusal) → numbered r ≡ as_answer bytes (only t (refusal_number refusal) n rest) →
          r ≡ (if t then Ok (n, place_of bytes rest) else Err refusal)
      picked n rest true (Ok p) e = let same : ◌≡◌ {A = ℕ × ℕ} p (n, place_of bytes rest) = cc in ap Ok same
      picked n rest true (Err k) e = let z : ◌≡◌ {A = ℕ} 0 1 = cc in absurd (omega arith)
      picked n rest false (Ok p) e = let z : ◌≡◌ {A = ℕ} 0 1 = cc in absurd (omega arith)
      picked n rest false (Err k) e = let same : refusal_number k ≡ refusal_number refusal = cc in ap Err (same_number k refusal same)

      unread : (k : ℕ) (r : Result (ℕ × ℕ) Refusal) → numbered r ≡ Err k → FieldAnswer (λ j e. e ≡ j) bytes refusal low high (refused k) r
      unread k (Ok p) e = let z : ◌≡◌ {A = ℕ} 0 1 = cc in absurd (omega arith)
      unread k (Err j) e = let same : refusal_number j ≡ k = cc in (j, same, refl)

      go : (x : Read ℕ) (r : Result (ℕ × ℕ) Refusal) → numbered r ≡ as_answer bytes (after x (λ m. only (leb low m && leb m high) (refusal_number refusal) m)) →
          FieldAnswer (λ j e. e ≡ j) bytes refusal low high x r
      go (read n rest) r e = picked n rest (leb low n && leb n high) r e
      go (refused k) r e = unread k r e

  pub field-plain : (refusal : ℕ) (r : Result (ℕ × ℕ) ℕ) → FieldAnswer (λ j k. k ≡ refusal_number j) bytes refusal low high (number l) r →
      r ≡ as_answer bytes (field refusal low high l)
  field-plain refusal r = go (number l)
    where
      picked : (n : ℕ) (rest : List ℕ) (t : Bool) → r ≡ (if t then Ok (n, place_of bytes rest) else Err refusal) →
          r ≡ as_answer bytes (only t refusal n rest)
      picked n rest true e = e
      picked n rest false e = e

      unread : (k : ℕ) (r : Result (ℕ × ℕ) ℕ) → FieldAnswer (λ j k. k ≡ refusal_number j) bytes refusal low high (refused k) r → r ≡ Err k
      unread k (Ok p) a = elim a [ ]
      unread k (Err e) a = ap Err (a.2 ∙ a.1)

      go : (x : Read ℕ) → FieldAnswer (λ j k. k ≡ refusal_number j) bytes refusal low high x r →
          r ≡ as_answer bytes (after x (λ m. only (leb low m && leb m high) refusal m))
      go (read n rest) e = picked n rest (leb low n && leb n high) e
      go (refused k) a = unread k r a

-- Where reading goes on: what a reader of the rules leaves is what stands from the next place on.
use Rattle.std.specs.Prelude.{◌≡◌, refl, List, [], ℕ, ◌+◌, ◌≤◌, length, drop, Result, Ok, Err}
use Rattle.std.proofs.Common.{sym, ap, ◌∙◌, arith, length-drop, drop_of_length-le, drop-drop}
use Rattle.std.proofs.Math.Decide.{dec_le}
use Rattle.rules.specs.Number.{Read, read, refused, Reader}
use Rattle.rules.specs.Laws.Readers.{Took, SoundReader}
use Rattle.fields.specs.Answers.{place_of, as_answer, numbered}
use Rattle.fields.specs.Refusals.{refusal_number}
use Rattle.fields.specs.declared.refusal.Refusal.{Refusal}

-- the place of what is left after n bytes
pub place_after : (bytes : List ℕ) (n : ℕ) → n ≤ length bytes → place_of bytes (drop n bytes) ≡ n
place_after bytes n h = rw (length-drop n bytes) (omega arith)

pub at_place : {k : ℕ} (bytes : List ℕ) (at : ℕ) {rest : List ℕ} → Took k (drop at bytes) rest → rest ≡ drop (place_of bytes rest) bytes
at_place bytes at {rest} t = go (dec_le (at + t.count) (length bytes))
  where
    is : rest ≡ drop (at + t.count) bytes
    is = t.left ∙ drop-drop t.count at bytes

    go : Dec (at + t.count ≤ length bytes) → rest ≡ drop (place_of bytes rest) bytes
    go (yes h) = is ∙ ap (λ n. drop n bytes) (sym (ap (place_of bytes) is ∙ place_after bytes (at + t.count) h))
    go (no h) =
        let e : rest ≡ [] = is ∙ drop_of_length-le bytes {i = at + t.count} (omega (arith, h)) in
        e ∙ sym (ap (λ l. drop (place_of bytes l) bytes) e ∙ drop_of_length-le bytes {i = place_of bytes []} (omega arith))

-- what an answer tells of the reader that it stands for: it read, and what is left stands from the next place on
module _ {A : Type 0} {k : ℕ} {P : A → Type 0} {p : Reader A} (s : SoundReader k P p) (bytes : List ℕ) (at : ℕ) where
  abbrev pub ReadTo : A → ℕ → Type 0
  ReadTo a next = (p (drop at bytes) ≡ read a (drop next bytes)) × (next ≤ length bytes)

  placed : (a : A) (next : ℕ) (rest : List ℕ) → p (drop at bytes) ≡ read a rest → next ≡ place_of bytes rest → ReadTo a next
  placed a next rest d b = (d ∙ ap (read a) (at_place bytes at (s.gives (drop at bytes) a rest d).1 ∙ ap (λ j. drop j bytes) (sym b)), omega arith)

module _ {A : Type 0} {k : ℕ} {P : A → Type 0} {p : Reader A} (s : SoundReader k P p) (bytes : List ℕ) (at : ℕ)
    {r : Result (A × ℕ) Refusal} (from : numbered r ≡ as_answer bytes (p (drop at bytes))) where
  pub answer_read : {c : A × ℕ} → r ≡ Ok c → ReadTo s bytes at c.0 c.1
  answer_read {c} got = go (p (drop at bytes)) refl (sym (ap numbered got) ∙ from)
    where
      go : (x : Read A) → p (drop at bytes) ≡ x → Ok c ≡ as_answer bytes x → ReadTo s bytes at c.0 c.1
      go (read m rest) d q = let a : m ≡ c.0 = cc in placed s bytes at c.0 c.1 rest (d ∙ ap (λ i. read i rest) a) (cc)
      go (refused j) d q = let z : ◌≡◌ {A = ℕ} 0 1 = cc in absurd (omega arith)

  pub answer-refused : {e : Refusal} → r ≡ Err e → p (drop at bytes) ≡ refused (refusal_number e)
  answer-refused {e} got = go (p (drop at bytes)) refl (sym (ap numbered got) ∙ from)
    where
      go : (x : Read A) → p (drop at bytes) ≡ x → Err (refusal_number e) ≡ as_answer bytes x →
          p (drop at bytes) ≡ refused (refusal_number e)
      go (read m rest) d q = let z : ◌≡◌ {A = ℕ} 0 1 = cc in absurd (omega arith)
      go (refused i) d q = let a : i ≡ refusal_number e = cc in d ∙ ap refused a

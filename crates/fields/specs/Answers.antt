-- What the readers' answers say: document 01's number for a refusal, and the next place for the bytes that are left.
use Rattle.std.specs.Prelude.{◌≡◌, ◌&&◌, List, ℕ, ◌-◌, leb, Result, Ok, Err, IsErrAnd, length, if◌then◌else◌}
use Rattle.std.proofs.Common.{ap, ◌∙◌, arith}
use Rattle.rules.specs.Number.{Read, read, refused}
use Rattle.fields.specs.Refusals.{refusal_number, same_number}
use Rattle.fields.specs.declared.refusal.Refusal.{Refusal}

-- the place in these bytes at which so many are left
abbrev pub place_of : List ℕ → List ℕ → ℕ
place_of bytes rest = length bytes - length rest

-- what a reader of the rules gives, with the next place
abbrev pub as_answer : {A : Type 0} → List ℕ → Read A → Result (A × ℕ) ℕ
as_answer bytes (read a rest) = Ok (a, place_of bytes rest)
as_answer bytes (refused k) = Err k

-- an answer with its refusal's number
abbrev pub numbered : {T : Type 0} → Result T Refusal → Result T ℕ
numbered (Ok t) = Ok t
numbered (Err e) = Err (refusal_number e)

-- a field's answer, where the refusal to hand out is of a type that refusals become: the number's refusal becomes one, and this one is handed
-- out as it is
abbrev pub FieldAnswer : {E : Type 0} → (Refusal → E → Type 0) → List ℕ → E → ℕ → ℕ → Read ℕ → Result (ℕ × ℕ) E → Type 0
FieldAnswer becomes bytes refusal low high (read n rest) r =
    r ≡ (if leb low n && leb n high then Ok (n, place_of bytes rest) else Err refusal)
FieldAnswer becomes bytes refusal low high (refused k) r = IsErrAnd r (λ e. (j : Refusal) × (refusal_number j ≡ k) × becomes j e)

-- a refusal that is passed on
pub passed-on : {T : Type 0} {y : Result T ℕ} (r : Result T Refusal) (e : Refusal) → IsErrAnd r (λ x. x ≡ e) → Err (refusal_number e) ≡ y →
    numbered r ≡ y
passed-on (Ok t) e i q = absurd i
passed-on (Err x) e i q = ap (λ z. Err (refusal_number z)) i ∙ q

-- no two refusals share a number, so an equation of numbered answers fixes the answer
pub same-numbered : {T : Type 0} (r s : Result T Refusal) → numbered r ≡ numbered s → r ≡ s
same-numbered (Ok t) (Ok u) e = let same : t ≡ u = cc in ap Ok same
same-numbered (Ok t) (Err k) e = let z : ◌≡◌ {A = ℕ} 0 1 = cc in absurd (omega arith)
same-numbered (Err j) (Ok u) e = let z : ◌≡◌ {A = ℕ} 0 1 = cc in absurd (omega arith)
same-numbered (Err j) (Err k) e = let same : refusal_number j ≡ refusal_number k = cc in ap Err (same_number j k same)

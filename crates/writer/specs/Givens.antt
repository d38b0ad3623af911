-- What stands in a Wait's slots, as it is given.
use Rattle.std.specs.Prelude.{◌≡◌, refl, List, ℕ, zero, suc, ◌+◌, ◌*◌, ◌≤◌, ◌&&◌, leb, ltb, ℤ, pos, get_or, length, Result, Ok}
use Rattle.std.proofs.Common.{sym, ap, subst, suc-mul, mul-le-mul, le_refl, arith, leb-true, length-append}
use Rattle.rules.specs.Condition.{Given}
use Rattle.rules.specs.Writer.{Written, written, ◌then◌, all-written, write_counted, write_below, write_field, write_coefficient, write_value, write_atom}
use Rattle.rules.specs.Laws.In.{both}
use Rattle.rules.specs.Laws.Halves.{written_same, both-written}
use Rattle.rules.proofs.Laws.FieldHalves.{passes}
use Rattle.condition.specs.From.{from, from-many}
use Rattle.writer.specs.Puts.{Puts, put-to, only-short, both-short, all_short, signed-short}
use Rattle.fields.specs.declared.refusal.Refusal.{Refusal}
use Rattle.wire.specs.declared.given.Given.{Given as Slots}

abbrev pub atom_in : List ℕ → List ℕ → List ℤ → List ℤ → ℕ → Given
atom_in measure operator coefficients constant slot = record {
  measure = get_or measure slot 0;
  operator = get_or operator slot 0;
  coefficients = from (λ k. get_or coefficients k (pos 0)) 4 (slot * 4);
  constant = get_or constant slot (pos 0);
}

-- ---- counted: as many as the count says, which is refused above four before one of them is looked at
module _ (counts measure operator : List ℕ) (coefficients constant : List ℤ) where
  abbrev pub alternative_given : ℕ → List Given
  alternative_given i = from (atom_in measure operator coefficients constant) (get_or counts i 0) (i * 4)

  abbrev pub condition_given : ℕ → List (List Given)
  condition_given count = from alternative_given count 0

-- ---- the same of a Wait's slots
abbrev pub locals_of : Slots → List ℤ
locals_of g = from (λ k. get_or g.locals k (pos 0)) 4 0

abbrev pub atom_of : Slots → ℕ → Given
atom_of g = atom_in g.measure g.operator g.coefficients g.constant

abbrev pub alternative_of : Slots → ℕ → List Given
alternative_of g = alternative_given g.counts g.measure g.operator g.coefficients g.constant

abbrev pub condition_of : Slots → ℕ → List (List Given)
condition_of g = condition_given g.counts g.measure g.operator g.coefficients g.constant

-- the number that was handed on is the one in the slot
pub below_as : (bound : ℕ) {n m : ℕ} {out out' : List ℕ} {at : ℕ} {r : Result ℕ Refusal} → n ≡ m →
    Puts (write_below bound n) out out' at r → Puts (write_below bound m) out out' at r
below_as bound {n} {m} {out} {out'} {at} {r} e p = subst (λ k. Puts (write_below bound k) out out' at r) e p

pub field-as : (refusal low high : ℕ) {n m : ℕ} {out out' : List ℕ} {at : ℕ} {r : Result ℕ Refusal} → n ≡ m →
    Puts (write_field refusal low high n) out out' at r → Puts (write_field refusal low high m) out out' at r
field-as refusal low high {n} {m} {out} {out'} {at} {r} e p = subst (λ k. Puts (write_field refusal low high k) out out' at r) e p

-- an atom has at most seven fields; of the reader's form, that is: four coefficients
pub atom-short : (measures : ℕ) (g : Slots) (slot : ℕ) (l : List ℕ) → write_atom measures (atom_of g slot) ≡ written l → length l ≤ 35
atom-short measures g slot =
    let a = atom_of g slot in
    both-short 5 30 (write_below measures a.measure) _ (only-short (ltb a.measure measures) 4 a.measure)
    (both-short 5 25 (write_field 3 1 6 a.operator) _ (only-short (leb 1 a.operator && leb a.operator 6) 3 a.operator)
    (both-short 20 5 _ (write_value a.constant) (all_short write_coefficient 5 (signed-short 100) a.coefficients)
    (signed-short 1_000_000 a.constant)))

pub field-range : (refusal low high n : ℕ) (l : List ℕ) → write_field refusal low high n ≡ written l → (low ≤ n) × (n ≤ high)
field-range refusal low high n l e = let b = both (leb low n) (leb n high) (passes (leb low n && leb n high) refusal n l e) in
    (leb-true low n b.0, leb-true n high b.1)

pub field-in : (refusal low high n : ℕ) {out out' : List ℕ} {at next : ℕ} → Puts (write_field refusal low high n) out out' at (Ok next) →
    (low ≤ n) × (n ≤ high)
field-in refusal low high n p = let t = put-to p refl in field-range refusal low high n t.bytes t.writes

-- the count is that of the list
pub counted-as : {A : Type 0} (w : A → Written) (f : ℕ → A) (n p : ℕ) {out out' : List ℕ} {at : ℕ} {r : Result ℕ Refusal} →
    Puts (write_field 4 1 4 n then all-written w (from f n p)) out out' at r → Puts (write_counted w (from f n p)) out out' at r
counted-as w f n p {out} {out'} {at} {r} q =
    subst (λ k. Puts (write_field 4 1 4 k then all-written w (from f n p)) out out' at r) (sym (from-many f n p)) q

pub atoms-as : {A : Type 0} (w : A → Written) (f : ℕ → A) (p : ℕ) {n m : ℕ} {out out' : List ℕ} {at : ℕ} {r : Result ℕ Refusal} → n ≡ m →
    Puts (all-written w (from f n p)) out out' at r → Puts (all-written w (from f m p)) out out' at r
atoms-as w f p {n} {m} {out} {out'} {at} {r} e q = subst (λ k. Puts (all-written w (from f k p)) out out' at r) e q

pub rows-all-short : {A : Type 0} (w : A → Written) (m : ℕ) (f : ℕ → A) → ((k : ℕ) (l : List ℕ) → w (f k) ≡ written l → length l ≤ m) →
    (n p : ℕ) (l : List ℕ) → all-written w (from f n p) ≡ written l → length l ≤ n * m
rows-all-short w m f short zero p l e = omega (arith, ap length (written_same e))
rows-all-short w m f short (suc n) p l e =
    let s = both-written (w (f p)) (all-written w (from f n (suc p))) e in
    rw (suc-mul n m) (omega (arith, short p s.0 s.2, rows-all-short w m f short n (suc p) s.1 s.3, length-append s.0 s.1, ap length s.4))

pub counted-short : {A : Type 0} (w : A → Written) (m : ℕ) (f : ℕ → A) → ((k : ℕ) (l : List ℕ) → w (f k) ≡ written l → length l ≤ m) →
    (n p : ℕ) (l : List ℕ) → write_counted w (from f n p) ≡ written l → length l ≤ 5 + 4 * m
counted-short w m f short n p l e =
    let s = both-written (write_field 4 1 4 (length (from f n p))) (all-written w (from f n p)) e in
    let few = (field-range 4 1 4 (length (from f n p)) s.0 s.2).1 in
    let four : n * m ≤ 4 * m = mul-le-mul (omega (arith, few, from-many f n p)) (le_refl m) in
    omega (
      arith,
      only-short (leb 1 (length (from f n p)) && leb (length (from f n p)) 4) 4 (length (from f n p)) s.0 s.2,
      rows-all-short w m f short n p s.1 s.3,
      four,
      length-append s.0 s.1,
      ap length s.4,
    )

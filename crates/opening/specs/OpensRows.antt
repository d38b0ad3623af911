-- The coefficients of an opening in their slots: eight for each measure, one measure after the other, and 0 past them. So the row of measure m is the m-th that was read.
use Rattle.std.specs.Prelude.{◌≡◌, refl, List, [], ◌∷◌, ◌++◌, ℕ, zero, suc, ◌*◌, ◌-◌, ◌≤◌, ℤ, pos, get_or, length, replicate}
use Rattle.std.proofs.Common.{sym, ap, ◌∙◌, subst, append_assoc, add-zero, arith, length-append, get_or-append-add}
use Rattle.std.proofs.lemmas.List.{length-replicate}
use Rattle.rules.specs.Laws.Bounds.{Within, Each}
use Rattle.rules.specs.Laws.WellFormed.{Numbers}
use Rattle.condition.specs.From.{from}
use Rattle.condition.specs.Measures.{AllIn}
use Rattle.wire.specs.Openings.{slots}
use Rattle.wire.specs.Rows.{flat}
use Rattle.room.specs.Arrays.{measure_row}

-- ---- a row that stands after others
row_at : (front row back : List ℤ) → from (λ k. get_or (front ++ (row ++ back)) k (pos 0)) (length row) (length front) ≡ row
row_at front [] back = refl
row_at front (x ∷ row) back =
    let first : get_or (front ++ (x ∷ (row ++ back))) (length front) (pos 0) ≡ x = ap (λ k. get_or (front ++ (x ∷ (row ++ back))) k (pos 0)) (sym (add-zero (length front))) ∙ get_or-append-add front (x ∷ (row ++ back)) 0 (pos 0) in
    let one_more : length (front ++ (x ∷ [])) ≡ suc (length front) = omega (arith, length-append front (x ∷ [])) in
    let rest = row_at (front ++ (x ∷ [])) row back in
    λ i. first i ∷ (rw (append_assoc front (x ∷ []) (row ++ back), one_more) at rest) i

rows_at : (most : ℕ) (front : List ℤ) (rows : List (List ℤ)) (back : List ℤ) (m : ℕ) → length front ≡ m * 8 → Each (Numbers 8 most) rows → from (measure_row (front ++ (flat rows ++ back))) (length rows) m ≡ rows
rows_at most front [] back m e h = refl
rows_at most front (row ∷ rows) back m e h =
    let all : (row ++ flat rows) ++ back ≡ row ++ (flat rows ++ back) = append_assoc row (flat rows) back in
    let here : measure_row (front ++ (row ++ (flat rows ++ back))) m ≡ row = rw (h.0.0, e) at (row_at front row (flat rows ++ back)) in
    let eight-more : length (front ++ row) ≡ suc m * 8 = omega (arith, length-append front row, h.0.0) in
    let rest = rows_at most (front ++ row) rows back (suc m) eight-more h.1 in
    subst (λ (tail : List ℤ). from (measure_row (front ++ tail)) (suc (length rows)) m ≡ row ∷ rows) (sym all)
    (λ i. here i ∷ (rw (append_assoc front row (flat rows ++ back)) at rest) i)

pub rows_back : (most : ℕ) (rows : List (List ℤ)) → Each (Numbers 8 most) rows → from (measure_row (slots 128 (flat rows))) (length rows) 0 ≡ rows
rows_back most rows h = rows_at most [] rows (replicate (128 - length (flat rows)) (pos 0)) 0 refl h

-- ---- how many there are, and how far from 0
pub eight-each : (most : ℕ) (rows : List (List ℤ)) → Each (Numbers 8 most) rows → length (flat rows) ≡ length rows * 8
eight-each most [] h = refl
eight-each most (row ∷ rows) h = omega (arith, length-append row (flat rows), h.0.0, eight-each most rows h.1)

pub slots-long : (most : ℕ) (rows : List (List ℤ)) → length rows ≤ 16 → Each (Numbers 8 most) rows → length (slots 128 (flat rows)) ≡ 128
slots-long most rows few h = omega (arith, length-append (flat rows) (replicate (128 - length (flat rows)) (pos 0)), length-replicate (128 - length (flat rows)) (pos 0), eight-each most rows h)

each_append : {A : Type 0} (P : A → Type 0) (l m : List A) → Each P l → Each P m → Each P (l ++ m)
each_append P [] m h k = k
each_append P (a ∷ l) m h k = (h.0, each_append P l m h.1 k)

each-flat : (most : ℕ) (rows : List (List ℤ)) → Each (Numbers 8 most) rows → Each (Within most) (flat rows)
each-flat most [] h = tt
each-flat most (row ∷ rows) h = each_append (Within most) row (flat rows) h.0.1 (each-flat most rows h.1)

each-zero : (most n : ℕ) → Each (Within most) (replicate n (pos 0))
each-zero most zero = tt
each-zero most (suc n) = (record { abs = omega arith }, each-zero most n)

pub all_in : (most : ℕ) (l : List ℤ) → Each (Within most) l → AllIn most l
all_in most [] h k = record { abs = omega arith }
all_in most (x ∷ l) h zero = h.0
all_in most (x ∷ l) h (suc k) = all_in most l h.1 k

pub slots-in : (most : ℕ) (rows : List (List ℤ)) → Each (Numbers 8 most) rows → AllIn most (slots 128 (flat rows))
slots-in most rows h = all_in most (slots 128 (flat rows)) (each_append (Within most) (flat rows) (replicate (128 - length (flat rows)) (pos 0)) (each-flat most rows h) (each-zero most (128 - length (flat rows))))

-- ---- and 0 past them
past : (l : List ℤ) (n k : ℕ) → length l ≤ k → get_or (l ++ replicate n (pos 0)) k (pos 0) ≡ pos 0
past [] zero k h = refl
past [] (suc n) zero h = refl
past [] (suc n) (suc k) h = past [] n k (omega arith)
past (x ∷ l) n zero h = absurd (omega arith)
past (x ∷ l) n (suc k) h = past l n k (omega arith)

pub slots-past : (most : ℕ) (rows : List (List ℤ)) → Each (Numbers 8 most) rows → (k : ℕ) → length rows * 8 ≤ k → get_or (slots 128 (flat rows)) k (pos 0) ≡ pos 0
slots-past most rows h k l = past (flat rows) (128 - length (flat rows)) k (omega (arith, eight-each most rows h))

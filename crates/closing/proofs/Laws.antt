-- The laws that the proofs of the code cite.
use Rattle.std.specs.Prelude.{◌≡◌, refl, List, [], ◌∷◌, ◌++◌, ℕ, suc, ◌+◌, ◌≤◌, get_or, length, take, drop}
use Rattle.std.proofs.Common.{rules, append_assoc, zero-add, sym, ap, ◌∙◌, arith}
use Rattle.std.proofs.lemmas.List.Edits.{sets, sets-eq}
use Rattle.std.proofs.lemmas.Slice.{overwrites}
use borrow.Rule.Slice.PartMut.{put_mid}
use Rattle.integers.specs.Machine.{back}
use Rattle.condition.specs.From.{from}
use Rattle.condition.specs.StoredFrom.{put-more}

pub ruleset laws = (back, put-more)

-- a list is what stands in its places
first-whole : (l : List ℕ) (f : ℕ → ℕ) (p : ℕ) → ((k : ℕ) → f (p + k) ≡ get_or l k 0) → from f (length l) p ≡ l
first-whole [] f p e = refl
first-whole (x ∷ l) f p e =
    let z : p + 0 ≡ p = omega arith in
    let here : f p ≡ x = ap f (sym z) ∙ e 0 in
    let rest : from f (length l) (suc p) ≡ l =
    first-whole l f (suc p) (λ k. let s : suc p + k ≡ p + suc k = omega arith in ap f s ∙ e (suc k)) in
    λ i. here i ∷ rest i

-- a part that is copied whole is stored place by place
pub put_sets : (xs ys zs : List ℕ) (p n k : ℕ) → ys ≡ zs → length zs ≡ n → k ≡ n → p + n ≤ length xs →
    put_mid p k xs ys ≡ sets xs p (from (λ j. get_or zs j 0) n 0)
put_sets xs ys zs p n k e l h w =
    let whole : from (λ j. get_or zs j 0) n 0 ≡ zs =
    ap (λ m. from (λ j. get_or zs j 0) m 0) (sym l) ∙ first-whole zs (λ j. get_or zs j 0) 0 (λ j. ap (λ m. get_or zs m 0) (zero-add j)) in
    let s : sets xs p zs ≡ take p xs ++ zs ++ drop (p + length zs) xs = sets-eq zs xs p (omega (arith, l, w)) in
    let d : drop k (drop p xs) ≡ drop (p + length zs) xs = rw (h, sym l) (search (rules, overwrites)) in
    let t : take p xs ++ (zs ++ drop (p + length zs) xs) ≡ take p xs ++ zs ++ drop (p + length zs) xs =
    sym (append_assoc (take p xs) zs (drop (p + length zs) xs)) in
    rw (whole, s, e) (ap (λ r. take p xs ++ (zs ++ r)) d ∙ t)

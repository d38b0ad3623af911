-- Identical conditions are equal, since every number of one is compared with its like in the other.
use Rattle.std.specs.Prelude.{◌≡◌, refl, Bool, true, List, [], ◌∷◌, eqb, ℤ, pos, negsuc}
use Rattle.std.proofs.Common.{ap, eqb-true, eq-eqb}
use Rattle.rules.specs.Base.{each, eq_z}
use Rattle.rules.specs.Condition.{Atom, Condition, same_atom, identical}
use Rattle.rules.specs.Laws.In.{true-not-false, both}

pub eq_z-true : (x y : ℤ) → eq_z x y ≡ true → x ≡ y
eq_z-true (pos a) (pos b) e = ap pos (eqb-true a b e)
eq_z-true (pos a) (negsuc b) e = true-not-false e refl
eq_z-true (negsuc a) (pos b) e = true-not-false e refl
eq_z-true (negsuc a) (negsuc b) e = ap negsuc (eqb-true a b e)

pub same_atom-true : (a b : Atom) → same_atom a b ≡ true → a ≡ b
same_atom-true a b e =
    let p = both _ (eq_z a.key b.key) e in
    let q = both (eqb a.measure b.measure) (eqb a.operator b.operator) p.0 in
    let m = eqb-true a.measure b.measure q.0 in
    let o = eqb-true a.operator b.operator q.1 in
    let k = eq_z-true a.key b.key p.1 in
    λ i. record { measure = m i; operator = o i; key = k i }

pub each-true : {A : Type 0} (same : A → A → Bool) → ((a b : A) → same a b ≡ true → a ≡ b) → (l m : List A) → each same l m ≡ true → l ≡ m
each-true same f [] [] e = refl
each-true same f [] (b ∷ m) e = true-not-false e refl
each-true same f (a ∷ l) [] e = true-not-false e refl
each-true same f (a ∷ l) (b ∷ m) e = let p = both (same a b) (each same l m) e in λ i. f a b p.0 i ∷ each-true same f l m p.1 i

pub identical-true : (c d : Condition) → identical c d ≡ true → c ≡ d
identical-true = each-true (each same_atom) (each-true same_atom same_atom-true)

-- and equal ones are identical
pub eq_z-same : (x : ℤ) → eq_z x x ≡ true
eq_z-same (pos a) = eq-eqb a a refl
eq_z-same (negsuc a) = eq-eqb a a refl

pub same_atom-same : (a : Atom) → same_atom a a ≡ true
same_atom-same a = rw (eq-eqb a.measure a.measure refl, eq-eqb a.operator a.operator refl, eq_z-same a.key)

pub each_same : {A : Type 0} (same : A → A → Bool) → ((a : A) → same a a ≡ true) → (l : List A) → each same l l ≡ true
each_same same f [] = refl
each_same same f (a ∷ l) = rw (f a) (each_same same f l)

pub identical-same : (c : Condition) → identical c c ≡ true
identical-same = each_same (each same_atom) (each_same same_atom same_atom-same)

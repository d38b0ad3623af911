-- How far from 0 sums and products of signed numbers can be: |x + y| ≤ |x| + |y| and |xy| = |x||y|, so a sum of products is
-- bounded by how many there are.
use Rattle.std.specs.Prelude.{◌≡◌, refl, Bool, true, false, cond, List, [], ◌∷◌, ℕ, zero, suc, ◌+◌, ◌*◌, ◌-◌, ◌≤◌, ltb, length, ℤ, pos, negsuc, neg_ℤ, nat_abs, ◌+ℤ◌, ◌-ℤ◌, ◌*ℤ◌}
use Rattle.std.proofs.Common.{sym, subst, inl, inr, le_refl, le_trans, add-le-add, mul-le-mul, suc-mul, arith}
use Rattle.rules.specs.Condition.{products}
use Rattle.rules.specs.Laws.In.{In}

-- |z| ≤ n
pub record Within (n : ℕ) (z : ℤ) : Type 0 where
  pub abs : nat_abs z ≤ n

pub abs_neg : (z : ℤ) → nat_abs (neg_ℤ z) ≡ nat_abs z
abs_neg (pos zero) = refl
abs_neg (pos (suc n)) = refl
abs_neg (negsuc n) = refl

abs-cond : (t : Bool) (a b : ℕ) → nat_abs (cond t (negsuc (suc b - suc a)) (pos (a - suc b))) ≤ a + suc b
abs-cond true a b = omega arith
abs-cond false a b = omega arith

pub abs-add : (x y : ℤ) → nat_abs (x +ℤ y) ≤ nat_abs x + nat_abs y
abs-add (pos a) (pos b) = le_refl (a + b)
abs-add (pos a) (negsuc b) = abs-cond (ltb a (suc b)) a b
abs-add (negsuc a) (pos b) = omega (arith, abs-cond (ltb b (suc a)) b a)
abs-add (negsuc a) (negsuc b) = omega arith

pub abs-mul : (x y : ℤ) → nat_abs (x *ℤ y) ≡ nat_abs x * nat_abs y
abs-mul (pos a) (pos b) = refl
abs-mul (pos a) (negsuc b) = abs_neg (pos (a * suc b))
abs-mul (negsuc a) (pos b) = abs_neg (pos (suc a * b))
abs-mul (negsuc a) (negsuc b) = refl

module _ {x y : ℤ} {m n : ℕ} (p : Within m x) (q : Within n y) where
  pub in-add : Within (m + n) (x +ℤ y)
  in-add = record { abs = le_trans (abs-add x y) (add-le-add p.abs q.abs) }

  pub in-sub : Within (m + n) (x -ℤ y)
  in-sub = record { abs = omega (arith, abs-add x (neg_ℤ y), abs_neg y) }

  pub in-mul : Within (m * n) (x *ℤ y)
  in-mul = record { abs = rw (abs-mul x y) (mul-le-mul p.abs q.abs) }

pub within_more : {m n : ℕ} {z : ℤ} → Within m z → m ≤ n → Within n z
within_more p l = record { abs = le_trans p.abs l }

-- ---- lists
abbrev pub Each : {A : Type 0} → (A → Type 0) → List A → Type 0
Each P [] = Unit {0}
Each P (a ∷ l) = P a × Each P l

pub each_in : {A : Type 0} (P : A → Type 0) (a : A) (l : List A) → Each P l → In a l → P a
each_in P a [] h i = elim i [ ]
each_in P a (b ∷ l) h (inl e) = subst P (sym e) h.0
each_in P a (b ∷ l) h (inr i) = each_in P a l h.1 i

pub products-within : (m n : ℕ) (l k : List ℤ) → Each (Within m) l → Each (Within n) k → Within (length l * (m * n)) (products l k)
products-within m n [] k h g = record { abs = omega arith }
products-within m n (x ∷ l) [] h g = record { abs = omega arith }
products-within m n (x ∷ l) (y ∷ k) h g = within_more (in-add (in-mul h.0 g.0) (products-within m n l k h.1 g.1)) (rw (suc-mul (length l) (m * n)) (omega arith))

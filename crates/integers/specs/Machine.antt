-- An i64 in the machine is its bits. `Holds n z b` is that the bits b stand for z, with |z| ≤ n; each operation of the code has a law that
-- says it fits (`-fits`) and one that says what its bits stand for (`-held`).
use Rattle.std.specs.Prelude.{◌≡◌, refl, Bool, true, false, ℕ, suc, ◌+◌, ◌*◌, ◌-◌, ◌≤◌, ◌<◌, eqb, ℤ, pos, negsuc, nat_abs, ◌+ℤ◌, ◌-ℤ◌, ◌*ℤ◌}
use Rattle.std.proofs.Common.{sym, ◌∙◌, ap, subst, le_refl, le_trans, lt_of_le_of_lt, arith, eq-eqb, ne_eqb, eqb-true, SFits, to_z, of_z}
use Rattle.std.proofs.Math.Nat.{le-suc}
use Rattle.std.proofs.lemmas.Bool.{eqb-false}
use Rattle.std.specs.Int.Signed.{mag, lt_z, le_z, nat_abs-le}
use Rattle.std.specs.Int.{w64}
use Rattle.std.proofs.lemmas.Int.{to_z-of_z}
use Rattle.rules.specs.Base.{eq_z}
use Rattle.rules.specs.Laws.Bounds.{Within, in-add, in-sub, in-mul}

mag-abs : (z : ℤ) → mag z ≤ nat_abs z
mag-abs (pos n) = le_refl n
mag-abs (negsuc n) = le-suc n

pub in-fits : {z : ℤ} {n : ℕ} → Within n z → n < 9223372036854775808 → SFits w64 z
in-fits {z} p l = record { sfits = lt_of_le_of_lt (le_trans (mag-abs z) p.abs) l }

pub record Holds (n : ℕ) (z : ℤ) (b : ℕ) : Type 0 where
  pub within : Within n z
  pub fits : SFits w64 z
  pub bits : b ≡ of_z w64 z

pub is : {n : ℕ} {z : ℤ} {b : ℕ} → Holds n z b → to_z w64 b ≡ z
is {z = z} p = ap (to_z w64) p.bits ∙ to_z-of_z w64 z p.fits

-- what a call is handed of a signed argument, and what a store puts: by `c.F.ok` of a result
pub back : (z : ℤ) → mag z < 9223372036854775808 → to_z w64 (of_z w64 z) ≡ z
back z l = to_z-of_z w64 z (record { sfits = l })

-- a number with a bound; any parameter or element, by its `fits`; `n as i64`
pub held : {n : ℕ} {z : ℤ} → Within n z → n < 9223372036854775808 → Holds n z (of_z w64 z)
held p l = record { within = p; fits = in-fits p l; bits = refl }

pub held_any : {z : ℤ} → SFits w64 z → Holds 9223372036854775808 z (of_z w64 z)
held_any {z} f = record { within = record { abs = nat_abs-le z f.sfits }; fits = f; bits = refl }

pub held-nat : (n : ℕ) → n < 9223372036854775808 → Holds n (pos n) n
held-nat n l = held (record { abs = le_refl n }) l

-- the same bits, for an equal number at a wider bound
pub holds_as : {m n b : ℕ} {y z : ℤ} → Holds m y b → y ≡ z → m ≤ n → Holds n z b
holds_as {n = n} {b = b} p e l = subst (λ v. Holds n v b) e (record { within = record { abs = le_trans p.within.abs l }; fits = p.fits; bits = p.bits })

module _ (op : ℤ → ℤ → ℤ) {x y : ℤ} {m n a b N : ℕ} (p : Holds m x a) (q : Holds n y b) (i : Within N (op x y)) (f : SFits w64 (op x y)) where
  op-is : op x y ≡ op (to_z w64 a) (to_z w64 b)
  op-is k = op (sym (is p) k) (sym (is q) k)

  pub op_fits : SFits w64 (op (to_z w64 a) (to_z w64 b))
  op_fits = subst (SFits w64) op-is f

  pub op-held : Holds N (op x y) (of_z w64 (op (to_z w64 a) (to_z w64 b)))
  op-held = record { within = i; fits = f; bits = ap (of_z w64) (sym op-is) }

module _ {x y : ℤ} {m n a b : ℕ} (p : Holds m x a) (q : Holds n y b) where
  pub add-fits : m + n < 9223372036854775808 → SFits w64 (to_z w64 a +ℤ to_z w64 b)
  add-fits l = let i = in-add p.within q.within in op_fits ◌+ℤ◌ p q i (in-fits i l)

  pub add-held : m + n < 9223372036854775808 → Holds (m + n) (x +ℤ y) (of_z w64 (to_z w64 a +ℤ to_z w64 b))
  add-held l = let i = in-add p.within q.within in op-held ◌+ℤ◌ p q i (in-fits i l)

  pub sub-fits : m + n < 9223372036854775808 → SFits w64 (to_z w64 a -ℤ to_z w64 b)
  sub-fits l = let i = in-sub p.within q.within in op_fits ◌-ℤ◌ p q i (in-fits i l)

  pub sub_held : m + n < 9223372036854775808 → Holds (m + n) (x -ℤ y) (of_z w64 (to_z w64 a -ℤ to_z w64 b))
  sub_held l = let i = in-sub p.within q.within in op-held ◌-ℤ◌ p q i (in-fits i l)

  pub mul-fits : m * n < 9223372036854775808 → SFits w64 (to_z w64 a *ℤ to_z w64 b)
  mul-fits l = let i = in-mul p.within q.within in op_fits ◌*ℤ◌ p q i (in-fits i l)

  pub mul-held : m * n < 9223372036854775808 → Holds (m * n) (x *ℤ y) (of_z w64 (to_z w64 a *ℤ to_z w64 b))
  mul-held l = let i = in-mul p.within q.within in op-held ◌*ℤ◌ p q i (in-fits i l)

-- ---- tests: the code's `==` compares bits, `<` and `<=` what the bits stand for
flip : (a b : ℕ) (t : Bool) → a < 9223372036854775808 → b < 9223372036854775808 → eqb a b ≡ t → eqb (18446744073709551616 - suc a) (18446744073709551616 - suc b) ≡ t
flip a b true p q e = eq-eqb _ _ (ap (λ n. 18446744073709551616 - suc n) (eqb-true a b e))
flip a b false p q e = ne_eqb (18446744073709551616 - suc a) (18446744073709551616 - suc b) (λ h. eqb-false a b e (omega arith))

eq-bits : {x y : ℤ} → SFits w64 x → SFits w64 y → eqb (of_z w64 x) (of_z w64 y) ≡ eq_z x y
eq-bits {x = pos a} {y = pos b} p q = refl
eq-bits {x = pos a} {y = negsuc b} p q = ne_eqb a (18446744073709551616 - suc b) (λ h. omega (arith, p.sfits, q.sfits))
eq-bits {x = negsuc a} {y = pos b} p q = ne_eqb (18446744073709551616 - suc a) b (λ h. omega (arith, p.sfits, q.sfits))
eq-bits {x = negsuc a} {y = negsuc b} p q = flip a b (eqb a b) p.sfits q.sfits refl

module _ {x y : ℤ} {m n a b : ℕ} (p : Holds m x a) (q : Holds n y b) where
  pub eq_is : eqb a b ≡ eq_z x y
  eq_is = (λ k. eqb (p.bits k) (q.bits k)) ∙ eq-bits p.fits q.fits

  pub lt-is : lt_z (to_z w64 a) (to_z w64 b) ≡ lt_z x y
  lt-is k = lt_z (is p k) (is q k)

  pub le_is : le_z (to_z w64 a) (to_z w64 b) ≡ le_z x y
  le_is k = le_z (is p k) (is q k)

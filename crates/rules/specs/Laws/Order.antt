-- `before` is a strict total order: asymmetric, and what lies between two lies on one side.
use Rattle.std.specs.Prelude.{◌≡◌, refl, ◌⊎◌, true, false, List, [], ◌∷◌, ℕ, ◌<◌, ltb, ℤ, pos, negsuc}
use Rattle.std.proofs.Common.{ap, inl, inr, arith, ltb-true, ltb-false, lt-ltb, le-ltb}
use Rattle.std.proofs.Math.Decide.{dec_lt}
use Rattle.std.specs.Int.Signed.{lt_z}
use Rattle.rules.specs.Rank.{before}
use Rattle.rules.specs.Laws.In.{by_bool, true-not-false}

asym : (a b : ℕ) → ltb a b ≡ true → ltb b a ≡ false
asym a b e = le-ltb b a (omega (arith, ltb-true a b e))

between : (a b c : ℕ) → ltb a c ≡ true → (ltb a b ≡ true) ⊎ (ltb b c ≡ true)
between a b c e = go (dec_lt a b)
  where
    go : Dec (a < b) → (ltb a b ≡ true) ⊎ (ltb b c ≡ true)
    go (yes h) = inl (lt-ltb a b h)
    go (no h) = inr (lt-ltb b c (omega (arith, ltb-true a c e)))

flip : {A B : Type 0} → A ⊎ B → B ⊎ A
flip (inl a) = inr a
flip (inr b) = inl b

asym_z : (x y : ℤ) → lt_z x y ≡ true → lt_z y x ≡ false
asym_z (pos a) (pos b) e = asym a b e
asym_z (pos a) (negsuc b) e = true-not-false e refl
asym_z (negsuc a) (pos b) e = refl
asym_z (negsuc a) (negsuc b) e = asym b a e

between_z : (x y z : ℤ) → lt_z x z ≡ true → (lt_z x y ≡ true) ⊎ (lt_z y z ≡ true)
between_z (pos a) (pos b) (pos c) e = between a b c e
between_z (pos a) (negsuc b) (pos c) e = inr refl
between_z (pos a) y (negsuc c) e = true-not-false e refl
between_z (negsuc a) (pos b) z e = inl refl
between_z (negsuc a) (negsuc b) (pos c) e = inr refl
between_z (negsuc a) (negsuc b) (negsuc c) e = flip (between c b a e)

irrefl_z : (x : ℤ) → lt_z x x ≡ false
irrefl_z x = by_bool (lt_z x x) (asym_z x x) (λ e. e)

-- where the heads do not differ the rest decides; `first-less` where they do
pub before_same : (x : ℤ) (l m : List ℤ) → before (x ∷ l) (x ∷ m) ≡ before l m
before_same x l m = rw (irrefl_z x)

less : (x y : ℤ) (l m : List ℤ) → lt_z x y ≡ true → before (x ∷ l) (y ∷ m) ≡ true
less x y l m e = rw e

pub before-asym : (l m : List ℤ) → before l m ≡ true → before m l ≡ false
before-asym [] [] e = refl
before-asym [] (y ∷ m) e = refl
before-asym (x ∷ l) [] e = true-not-false e refl
before-asym (x ∷ l) (y ∷ m) e = by_bool (lt_z x y) (λ t. rw (asym_z x y t, t)) (λ f. by_bool (lt_z y x)
    (λ t. true-not-false (rw (f, t) at e) refl)
    (λ g. rw (g, f) (before-asym l m (rw (f, g) at e))))

pub before-between : (l m n : List ℤ) → before l n ≡ true → (before l m ≡ true) ⊎ (before m n ≡ true)
before-between [] [] [] e = true-not-false e refl
before-between [] [] (z ∷ n) e = inr refl
before-between [] (y ∷ m) n e = inl refl
before-between (x ∷ l) m [] e = true-not-false e refl
before-between (x ∷ l) [] (z ∷ n) e = inr refl
before-between (x ∷ l) (y ∷ m) (z ∷ n) e = by_bool (lt_z x z)
    (λ t. elim (between_z x y z t) [ inl h ↦ inl (less x y l m h) | inr h ↦ inr (less y z m n h) ])
    (λ f. by_bool (lt_z z x) (λ t. true-not-false (rw (f, t) at e) refl)
    (λ g. by_bool (lt_z x y) (λ t. inl (less x y l m t))
    (λ p. by_bool (lt_z y x) (λ t. elim (between_z y z x t) [ inl h ↦ inr (less y z m n h) | inr h ↦ true-not-false h g ])
    (λ q. by_bool (lt_z y z) (λ t. inr (less y z m n t))
    (λ r. by_bool (lt_z z y) (λ t. elim (between_z z x y t) [ inl h ↦ true-not-false h g | inr h ↦ true-not-false h p ])
    (λ s. elim (before-between l m n (rw (f, g) at e)) [ inl h ↦ inl (rw (p, q) h) | inr h ↦ inr (rw (r, s) h) ]))))))

pub before-irrefl : (l : List ℤ) → before l l ≡ false
before-irrefl l = by_bool (before l l) (before-asym l l) (λ e. e)

pub before-trans : (l m n : List ℤ) → before l m ≡ true → before m n ≡ true → before l n ≡ true
before-trans l m n p q = elim (before-between l n m p) [ inl h ↦ h | inr h ↦ true-not-false h (before-asym m n q) ]

equal : (a b : ℕ) → ltb a b ≡ false → ltb b a ≡ false → a ≡ b
equal a b p q = omega (arith, ltb-false a b p, ltb-false b a q)

equal_z : (x y : ℤ) → lt_z x y ≡ false → lt_z y x ≡ false → x ≡ y
equal_z (pos a) (pos b) p q = ap pos (equal a b p q)
equal_z (pos a) (negsuc b) p q = true-not-false refl q
equal_z (negsuc a) (pos b) p q = true-not-false refl p
equal_z (negsuc a) (negsuc b) p q = ap negsuc (equal a b q p)

-- of two that differ one is before the other
pub before-total : (l m : List ℤ) → before l m ≡ false → before m l ≡ false → l ≡ m
before-total [] [] p q = refl
before-total [] (y ∷ m) p q = true-not-false refl p
before-total (x ∷ l) [] p q = true-not-false refl q
before-total (x ∷ l) (y ∷ m) p q = by_bool (lt_z x y) (λ t. true-not-false (rw t) p) (λ f. by_bool (lt_z y x) (λ t. true-not-false (rw t) q)
    (λ g. λ i. equal_z x y f g i ∷ before-total l m (rw (f, g) at p) (rw (g, f) at q) i))

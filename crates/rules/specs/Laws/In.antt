-- What is in a list, and what the tests of Base say of it: each by going along the list.
use mathlib.Core.Path.{◌≡◌, refl, sym, ap, ◌∙◌}
use Rattle.std.specs.Prelude.{◌⊎◌, Bool, true, false, ◌&&◌, List, [], ◌∷◌, ◌++◌, ℕ, if◌then◌else◌}
use Rattle.std.proofs.Common.{inl, inr, arith}
use Rattle.std.proofs.Math.Option.{none, some}
use Rattle.rules.specs.Base.{those, first, any, all, gather}

abbrev pub In : {A : Type 0} → A → List A → Type 0
In a [] = ⊥
In a (b ∷ l) = (a ≡ b) ⊎ In a l

pub by_bool : {C : Type 0} (t : Bool) → (t ≡ true → C) → (t ≡ false → C) → C
by_bool true f g = f refl
by_bool false f g = g refl

pub true-not-false : {C : Type 0} {t : Bool} → t ≡ true → t ≡ false → C
true-not-false p q = absurd (no-path (sym p ∙ q))
  where
    is : Bool → Type 0
    is true = Unit {0}
    is false = ⊥

    no-path : true ≡ false → ⊥
    no-path e = mathlib.Core.Path.subst is e tt

pub both : (s t : Bool) → (s && t) ≡ true → (s ≡ true) × (t ≡ true)
both true t e = (refl, e)
both false t e = true-not-false e refl

pub none-some : {A : Type 0} {a : A} → none ≡ some a → ⊥
none-some e = let z : ◌≡◌ {A = ℕ} 0 1 = cc in omega arith

pub some_same : {A : Type 0} {a b : A} → some a ≡ some b → a ≡ b
some_same e = cc

module _ {A : Type 0} (p : A → Bool) where
  from-if : {a x : A} (l m : List A) (t : Bool) → p x ≡ t → (In a m → In a l × (p a ≡ true)) → In a (if t then x ∷ m else m) → In a (x ∷ l) × (p a ≡ true)
  from-if l m true e ih (inl q) = (inl q, ap p q ∙ e)
  from-if l m true e ih (inr h) = (inr (ih h).0, (ih h).1)
  from-if l m false e ih h = (inr (ih h).0, (ih h).1)

  pub in-those : {a : A} (l : List A) → In a (those p l) → In a l × (p a ≡ true)
  in-those [] h = absurd h
  in-those (x ∷ l) h = from-if l (those p l) (p x) refl (in-those l) h

  to-if : {a x : A} (m : List A) (t : Bool) → p x ≡ t → p a ≡ true → (a ≡ x) ⊎ In a m → In a (if t then x ∷ m else m)
  to-if m true e h q = q
  to-if m false e h (inl q) = true-not-false (sym (ap p q) ∙ h) e
  to-if m false e h (inr i) = i

  pub those-in : {a : A} (l : List A) → In a l → p a ≡ true → In a (those p l)
  those-in [] h e = h
  those-in (x ∷ l) (inl q) e = to-if (those p l) (p x) refl e (inl q)
  those-in (x ∷ l) (inr h) e = to-if (those p l) (p x) refl e (inr (those-in l h e))

  pub any-in : {a : A} (l : List A) → In a l → p a ≡ true → any p l ≡ true
  any-in [] h e = absurd h
  any-in (x ∷ l) (inl q) e = rw (sym (ap p q) ∙ e)
  any-in (x ∷ l) (inr i) e = or-true (p x) (any-in l i e)
    where
      or-true : (t : Bool) → any p l ≡ true → (if t then true else any p l) ≡ true
      or-true true h = refl
      or-true false h = h

  pub any_some : (l : List A) → any p l ≡ true → (a : A) × In a l × (p a ≡ true)
  any_some [] h = true-not-false h refl
  any_some (x ∷ l) h = by_bool (p x) (λ y. (x, inl refl, y)) (λ n. let r = any_some l (rw n at h) in (r.0, inr r.1, r.2))

  pub all_in : (l : List A) (a : A) → all p l ≡ true → In a l → p a ≡ true
  all_in [] a e h = absurd h
  all_in (x ∷ l) a e (inl q) = ap p q ∙ (both (p x) (all p l) e).0
  all_in (x ∷ l) a e (inr h) = all_in l a (both (p x) (all p l) e).1 h

  pub first-in : (l : List A) (a : A) → first p l ≡ some a → In a l
  first-in [] a e = absurd (none-some e)
  first-in (x ∷ l) a e = by_bool (p x) (λ t. inl (sym (some_same (rw t at e)))) (λ t. inr (first-in l a (rw t at e)))

  pub first-true : (l : List A) (a : A) → first p l ≡ some a → p a ≡ true
  first-true [] a e = absurd (none-some e)
  first-true (x ∷ l) a e = by_bool (p x) (λ t. ap p (sym (some_same (rw t at e))) ∙ t) (λ f. first-true l a (rw f at e))

  pub first-none : (l : List A) (a : A) → first p l ≡ none → In a l → p a ≡ true → ⊥
  first-none [] a e h t = h
  first-none (x ∷ l) a e (inl d) t = none-some (sym (rw (sym (ap p d) ∙ t) at e))
  first-none (x ∷ l) a e (inr i) t = by_bool (p x) (λ u. none-some (sym (rw u at e))) (λ f. first-none l a (rw f at e) i t)

  pub those-none : (l : List A) → ((a : A) → In a l → p a ≡ false) → those p l ≡ []
  those-none [] h = refl
  those-none (x ∷ l) h = rw (h x (inl refl)) (those-none l (λ a i. h a (inr i)))

-- a test after a test
pub those-both : {A : Type 0} (p q : A → Bool) (l : List A) → those (λ a. p a && q a) l ≡ those q (those p l)
those-both p q [] = refl
those-both p q (a ∷ l) = by_bool (p a) (λ t. by_bool (q a) (λ u. rw (t, u) (ap (λ m. a ∷ m) (those-both p q l))) (λ u. rw (t, u) (those-both p q l))) (λ t. rw t (those-both p q l))

pub in_left : {A : Type 0} (a : A) (l m : List A) → In a l → In a (l ++ m)
in_left a [] m h = elim h [ ]
in_left a (x ∷ l) m (inl e) = inl e
in_left a (x ∷ l) m (inr h) = inr (in_left a l m h)

pub in_right : {A : Type 0} (a : A) (l m : List A) → In a m → In a (l ++ m)
in_right a [] m h = h
in_right a (x ∷ l) m h = inr (in_right a l m h)

pub in-append : {A : Type 0} (a : A) (l m : List A) → In a (l ++ m) → In a l ⊎ In a m
in-append a [] m h = inr h
in-append a (x ∷ l) m (inl e) = inl (inl e)
in-append a (x ∷ l) m (inr h) = elim (in-append a l m h) [ inl i ↦ inl (inr i) | inr i ↦ inr i ]

module _ {A B : Type 0} (f : A → List B) where
  pub gather-in : (a : A) (b : B) (l : List A) → In a l → In b (f a) → In b (gather f l)
  gather-in a b [] i h = elim i [ ]
  gather-in a b (x ∷ l) (inl e) h = in_left b (f x) (gather f l) (rw e at h)
  gather-in a b (x ∷ l) (inr i) h = in_right b (f x) (gather f l) (gather-in a b l i h)

  pub in-gather : (b : B) (l : List A) → In b (gather f l) → (a : A) × In a l × In b (f a)
  in-gather b [] h = absurd h
  in-gather b (x ∷ l) h = go (in-gather b l) (in-append b (f x) (gather f l) h)
    where
      go : (In b (gather f l) → (a : A) × In a l × In b (f a)) → In b (f x) ⊎ In b (gather f l) → (a : A) × In a (x ∷ l) × In b (f a)
      go ih (inl i) = (x, inl refl, i)
      go ih (inr i) = let r = ih i in (r.0, inr r.1, r.2)

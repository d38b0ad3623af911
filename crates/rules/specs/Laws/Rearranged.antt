-- A list rearranged has the same members and as many that pass a test; and two lists without doubles that have the same
-- members are rearranged, by bringing each member to the front in turn.
use Rattle.std.specs.Prelude.{◌≡◌, refl, Bool, true, false, List, [], ◌∷◌, suc, length, if◌then◌else◌}
use Rattle.std.proofs.Common.{sym, ◌∙◌, subst, ap, inl, inr}
use Rattle.rules.specs.Base.{those}
use Rattle.rules.specs.Laws.In.{In}

pub data Rearranged {A : Type 0} : List A → List A → Type 0 where
  empty : Rearranged [] []
  keep : {a : A} {l m : List A} → Rearranged l m → Rearranged (a ∷ l) (a ∷ m)
  swap : {a b : A} {l : List A} → Rearranged (a ∷ b ∷ l) (b ∷ a ∷ l)
  chain : {l m n : List A} → Rearranged l m → Rearranged m n → Rearranged l n

pub re-in : {A : Type 0} {l m : List A} (a : A) → Rearranged l m → In a l → In a m
re-in a empty h = h
re-in a (keep r) (inl e) = inl e
re-in a (keep r) (inr h) = inr (re-in a r h)
re-in a swap (inl e) = inr (inl e)
re-in a swap (inr (inl e)) = inl e
re-in a swap (inr (inr h)) = inr (inr h)
re-in a (chain r s) h = re-in a s (re-in a r h)

pub back : {A : Type 0} {l m : List A} → Rearranged l m → Rearranged m l
back empty = empty
back (keep r) = keep (back r)
back swap = swap
back (chain r s) = chain (back s) (back r)

keep-count : {A : Type 0} (t : Bool) (a : A) (l m : List A) → length l ≡ length m → length (if t then a ∷ l else l) ≡ length (if t then a ∷ m else m)
keep-count true a l m e = ap suc e
keep-count false a l m e = e

swap-count : {A : Type 0} (s t : Bool) (a b : A) (l : List A) →
    length (if s then a ∷ (if t then b ∷ l else l) else (if t then b ∷ l else l)) ≡ length (if t then b ∷ (if s then a ∷ l else l) else (if s then a ∷ l else l))
swap-count true true a b l = refl
swap-count true false a b l = refl
swap-count false true a b l = refl
swap-count false false a b l = refl

pub re-count : {A : Type 0} {l m : List A} (p : A → Bool) → Rearranged l m → length (those p l) ≡ length (those p m)
re-count p empty = refl
re-count p (keep {a = a} {l = l} {m = m} r) = keep-count (p a) a (those p l) (those p m) (re-count p r)
re-count p (swap {a = a} {b = b} {l = l}) = swap-count (p a) (p b) a b (those p l)
re-count p (chain r s) = re-count p r ∙ re-count p s

-- ---- without doubles
abbrev pub Once : {A : Type 0} → List A → Type 0
Once [] = Unit {0}
Once (a ∷ l) = (In a l → ⊥) × Once l

pub re-self : {A : Type 0} (l : List A) → Rearranged l l
re-self [] = empty
re-self (a ∷ l) = keep (re-self l)

pub re-once : {A : Type 0} {l m : List A} → Rearranged l m → Once l → Once m
re-once empty o = o
re-once (keep {a = a} r) o = (λ h. o.0 (re-in a (back r) h), re-once r o.1)
re-once (swap {a = a} {b = b} {l = l}) o = (no-b, (λ h. o.0 (inr h), o.1.1))
  where
    no-b : In b (a ∷ l) → ⊥
    no-b (inl e) = o.0 (inl (sym e))
    no-b (inr h) = o.1.0 h
re-once (chain r s) o = re-once s (re-once r o)

to_front : {A : Type 0} (a : A) (m : List A) → In a m → (n : List A) × Rearranged m (a ∷ n)
to_front a [] h = elim h [ ]
to_front a (b ∷ m) (inl e) = (m, subst (λ c. Rearranged (b ∷ m) (c ∷ m)) (sym e) (re-self (b ∷ m)))
to_front a (b ∷ m) (inr h) = let r = to_front a m h in (b ∷ r.0, chain (keep r.1) swap)

but : {A : Type 0} (a x : A) (l : List A) → (x ≡ a → ⊥) → In x (a ∷ l) → In x l
but a x l n (inl e) = absurd (n e)
but a x l n (inr h) = h

pub same-members : {A : Type 0} (l m : List A) → Once l → Once m → ((x : A) → In x l → In x m) → ((x : A) → In x m → In x l) → Rearranged l m
same-members [] [] o u f g = empty
same-members [] (b ∷ m) o u f g = absurd (g b (inl refl))
same-members (a ∷ l) m o u f g =
    let r = to_front a m (f a (inl refl)) in
    let v = re-once r.1 u in
    chain (keep (same-members l r.0 o.1 v.1
    (λ x i. but a x r.0 (λ e. o.0 (subst (λ y. In y l) e i)) (re-in x r.1 (f x (inr i))))
    (λ x i. but a x l (λ e. v.0 (subst (λ y. In y r.0) e i)) (g x (re-in x (back r.1) (inr i)))))) (back r.1)

-- Lists of nodes in rising order of rank: for one set of nodes there is one such list, since each list's head is the node that ranks first.
use Rattle.std.specs.Prelude.{◌≡◌, ◌⊎◌, Bool, if◌then◌else◌}
use Rattle.std.proofs.Math.Path.{refl, ap}
use Rattle.std.proofs.Common.{sym, ◌∙◌, arith}
use Rattle.std.proofs.Math.Logic.{inl, inr}
use Rattle.std.proofs.Math.Bool.{true, false}
use mathlib.Core.List.{List, [], ◌∷◌, ◌++◌}
use Prim.Native.Nat.{ℕ, zero, suc, ◌<◌}
use Rattle.std.proofs.Math.Dec.{ltb}
use borrow.Author.Tests.{ltb-true, ltb-false}
use Rattle.rules.specs.Laws.Cases.{by_eq}
use Rattle.rules.specs.Base.{those}
use Rattle.rules.specs.Laws.In.{In, by_bool, in-those}
use Rattle.nodes.specs.Sorted.{among, put_among}

abbrev pub Rising : (ℕ → ℕ) → List ℕ → Type 0
Rising rank [] = Unit {0}
Rising rank (x ∷ l) = ((z : ℕ) → In z l → rank x < rank z) × Rising rank l

module _ (rank : ℕ → ℕ) where
  heads : (x y : ℕ) (l m : List ℕ) → Rising rank (x ∷ l) → Rising rank (y ∷ m) → In x (y ∷ m) → In y (x ∷ l) → x ≡ y
  heads x y l m a b (inl e) g = e
  heads x y l m a b (inr h) (inl e) = sym e
  heads x y l m a b (inr h) (inr k) = absurd (omega (arith, a.0 y k, b.0 x h))

  tail : (x y z : ℕ) (l m : List ℕ) → Rising rank (x ∷ l) → x ≡ y → In z l → In z (y ∷ m) → In z m
  tail x y z l m a e h (inl d) = absurd (omega (arith, a.0 z h, ap rank (d ∙ sym e)))
  tail x y z l m a e h (inr k) = k

  pub rising-same : (l m : List ℕ) → Rising rank l → Rising rank m → ((z : ℕ) → In z l → In z m) → ((z : ℕ) → In z m → In z l) → l ≡ m
  rising-same [] [] a b f g = refl
  rising-same [] (y ∷ m) a b f g = absurd (g y (inl refl))
  rising-same (x ∷ l) [] a b f g = absurd (f x (inl refl))
  rising-same (x ∷ l) (y ∷ m) a b f g =
      let same : x ≡ y = heads x y l m a b (f x (inl refl)) (g y (inl refl)) in
      let rest : l ≡ m = rising-same l m a.1 b.1 (λ z h. tail x y z l m a same h (f z (inr h))) (λ z h. tail y x z m l b (sym same) h (g z (inr h))) in
      λ i. same i ∷ rest i

  pub rising-append : (l m : List ℕ) → Rising rank l → Rising rank m → ((x y : ℕ) → In x l → In y m → rank x < rank y) → Rising rank (l ++ m)
  rising-append [] m a b f = b
  rising-append (x ∷ l) m a b f = (λ z h. go z (in_either z l m h), rising-append l m a.1 b (λ u v p q. f u v (inr p) q))
    where
      in_either : (z : ℕ) (l m : List ℕ) → In z (l ++ m) → In z l ⊎ In z m
      in_either z [] m h = inr h
      in_either z (y ∷ l) m (inl e) = inl (inl e)
      in_either z (y ∷ l) m (inr h) = elim (in_either z l m h) [ inl p ↦ inl (inr p) | inr p ↦ inr p ]

      go : (z : ℕ) → In z l ⊎ In z m → rank x < rank z
      go z (inl p) = a.0 z p
      go z (inr p) = f x z (inl refl) p

  pub rising-those : (p : ℕ → Bool) (l : List ℕ) → Rising rank l → Rising rank (those p l)
  rising-those p [] a = tt
  rising-those p (x ∷ l) a = by_bool (p x)
      (λ t. rw t (λ z h. a.0 z (in-those p l h).0, rising-those p l a.1))
      (λ t. rw t (rising-those p l a.1))

  -- ---- one node put among others
  pub among_in : (x z : ℕ) (l : List ℕ) → In z (among rank x l) → (z ≡ x) ⊎ In z l
  unfolding among
  among_in x z [] (inl e) = inl e
  among_in x z [] (inr h) = absurd h
  among_in x z (y ∷ l) h = go (ltb (rank y) (rank x)) (among_in x z l) h
    where
      go : (t : Bool) → (In z (among rank x l) → (z ≡ x) ⊎ In z l) → In z (put_among t x y l (among rank x l)) → (z ≡ x) ⊎ In z (y ∷ l)
      go true ih (inl e) = inr (inl e)
      go true ih (inr k) = elim (ih k) [ inl e ↦ inl e | inr i ↦ inr (inr i) ]
      go false ih (inl e) = inl e
      go false ih (inr k) = inr k

  pub in-among : (x z : ℕ) (l : List ℕ) → (z ≡ x) ⊎ In z l → In z (among rank x l)
  unfolding among
  in-among x z [] (inl e) = inl e
  in-among x z [] (inr h) = absurd h
  in-among x z (y ∷ l) h = go (ltb (rank y) (rank x)) (in-among x z l) h
    where
      go : (t : Bool) → ((z ≡ x) ⊎ In z l → In z (among rank x l)) → (z ≡ x) ⊎ In z (y ∷ l) → In z (put_among t x y l (among rank x l))
      go true ih (inl e) = inr (ih (inl e))
      go true ih (inr (inl e)) = inl e
      go true ih (inr (inr k)) = inr (ih (inr k))
      go false ih (inl e) = inl e
      go false ih (inr k) = inr k

  pub rising-among : (x : ℕ) (l : List ℕ) → ((z : ℕ) → In z l → rank z ≡ rank x → ⊥) → Rising rank l → Rising rank (among rank x l)
  unfolding among
  rising-among x [] d a = (λ z h. absurd h, tt)
  rising-among x (y ∷ l) d a = go (ltb (rank y) (rank x)) refl (rising-among x l (λ z h. d z (inr h)) a.1)
    where
      first : ltb (rank y) (rank x) ≡ true → (z : ℕ) → (z ≡ x) ⊎ In z l → rank y < rank z
      first e z (inl s) = omega (arith, ltb-true (rank y) (rank x) e, ap rank s)
      first e z (inr h) = a.0 z h

      next : ltb (rank y) (rank x) ≡ false → (z : ℕ) → In z (y ∷ l) → rank x < rank z
      next e z (inl s) = omega (arith, ltb-false (rank y) (rank x) e, ap rank s, d y (inl refl))
      next e z (inr h) = omega (arith, ltb-false (rank y) (rank x) e, a.0 z h)

      go : (t : Bool) → ltb (rank y) (rank x) ≡ t → Rising rank (among rank x l) → Rising rank (put_among t x y l (among rank x l))
      go true e r = (λ z h. first e z (among_in x z l h), r)
      go false e r = (next e, a)

  -- ---- all nodes below n that pass a test
  unfoldable pub listed : (ℕ → Bool) → ℕ → List ℕ
  listed live zero = []
  listed live (suc n) = if live n then among rank n (listed live n) else listed live n

  pub in-listed : (live : ℕ → Bool) (n z : ℕ) → In z (listed live n) → (z < n) × (live z ≡ true)
  unfolding listed
  in-listed live zero z h = absurd h
  in-listed live (suc n) z h = by_bool (live n)
      (λ t. go t (in-listed live n z) (among_in n z (listed live n) (rw t at h)))
      (λ t. let r = in-listed live n z (rw t at h) in (omega (arith, r.0), r.1))
    where
      go : live n ≡ true → (In z (listed live n) → (z < n) × (live z ≡ true)) → (z ≡ n) ⊎ In z (listed live n) → (z < suc n) × (live z ≡ true)
      go t ih (inl e) = (omega (arith, e), ap live e ∙ t)
      go t ih (inr k) = let r = ih k in (omega (arith, r.0), r.1)

  pub listed_in : (live : ℕ → Bool) (n z : ℕ) → z < n → live z ≡ true → In z (listed live n)
  unfolding listed
  listed_in live zero z p t = absurd (omega arith)
  listed_in live (suc n) z p t = by_eq z n
      (λ e. rw (sym (ap live e) ∙ t) (in-among n z (listed live n) (inl e)))
      (λ d. let h : In z (listed live n) = listed_in live n z (omega arith) t in by_bool (live n) (λ u. rw u (in-among n z (listed live n) (inr h))) (λ u. rw u h))

  pub rising-listed : (live : ℕ → Bool) (n : ℕ) → ((y z : ℕ) → live y ≡ true → live z ≡ true → rank y ≡ rank z → y ≡ z) → Rising rank (listed live n)
  unfolding listed
  rising-listed live zero d = tt
  rising-listed live (suc n) d = by_bool (live n)
      (λ t. rw t (rising-among n (listed live n)
      (λ z h e. let r = in-listed live n z h in absurd (omega (arith, r.0, d z n r.1 t e))) (rising-listed live n d)))
      (λ t. rw t (rising-listed live n d))

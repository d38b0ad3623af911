-- The nodes in the first n places, in the order of their ranks: one list, wherever each of them stands. For two ascending lists with the same
-- contents have the same head, the one that ranks first, and so on down.
use Rattle.std.specs.Prelude.{◌≡◌, Bool, get_or}
use Rattle.std.proofs.Math.Path.{refl, ap}
use Rattle.std.proofs.Common.{◌∙◌}
use Rattle.std.proofs.Math.Bool.{true, false}
use mathlib.Core.List.{List, [], ◌∷◌}
use Prim.Native.Nat.{ℕ, zero, suc, ◌+◌, ◌<◌, ◌≤◌}
use native.Mathlib.Omega.{arith}
use Rattle.std.proofs.Math.Dec.{ltb}
use borrow.Author.Tests.{ltb-true, ltb-false}
use Rattle.rules.specs.Laws.Cases.{by_eq}
use Rattle.nodes.specs.Counts.{count, is, is-self, is-not}

-- x into a list in order, before the first that does not rank before it
abbrev pub put_among : Bool → ℕ → ℕ → List ℕ → List ℕ → List ℕ
put_among true x y l put = y ∷ put
put_among false x y l put = x ∷ y ∷ l

unfoldable pub among : (ℕ → ℕ) → ℕ → List ℕ → List ℕ
among rank x [] = x ∷ []
among rank x (y ∷ l) = put_among (ltb (rank y) (rank x)) x y l (among rank x l)

-- the first n places in order
unfoldable pub sorted : (ℕ → ℕ) → List ℕ → ℕ → List ℕ
sorted rank l zero = []
sorted rank l (suc n) = among rank (get_or l n 0) (sorted rank l n)

-- how often z is in a list
unfoldable pub times_in : List ℕ → ℕ → ℕ
times_in [] z = 0
times_in (x ∷ l) z = is x z + times_in l z

unfoldable pub Ascending : (ℕ → ℕ) → List ℕ → Type 0
Ascending rank [] = Unit {0}
Ascending rank (x ∷ l) = ((z : ℕ) → 0 < times_in l z → rank x ≤ rank z) × Ascending rank l

-- no two nodes of a list have one rank
abbrev pub Apart : (ℕ → ℕ) → List ℕ → Type 0
Apart rank l = (y z : ℕ) → 0 < times_in l y → 0 < times_in l z → rank y ≡ rank z → y ≡ z

module _ (rank : ℕ → ℕ) where
  pub among-times : (x : ℕ) (l : List ℕ) (z : ℕ) → times_in (among rank x l) z ≡ is x z + times_in l z
  unfolding among times_in
  among-times x [] z = refl
  among-times x (y ∷ l) z = go (ltb (rank y) (rank x)) (among-times x l z)
    where
      go : (t : Bool) → times_in (among rank x l) z ≡ is x z + times_in l z → times_in (put_among t x y l (among rank x l)) z ≡ is x z + (is y z + times_in l z)
      go true e = omega arith
      go false e = refl

  pub sorted-times : (l : List ℕ) (n z : ℕ) → times_in (sorted rank l n) z ≡ count l n z
  unfolding sorted times_in count
  sorted-times l zero z = refl
  sorted-times l (suc n) z = omega (arith, among-times (get_or l n 0) (sorted rank l n) z, sorted-times l n z)

  pub among-ascending : (x : ℕ) (l : List ℕ) → Ascending rank l → Ascending rank (among rank x l)
  unfolding among times_in Ascending
  among-ascending x [] a = (λ z h. absurd (omega arith), tt)
  among-ascending x (y ∷ l) a = go (ltb (rank y) (rank x)) refl (among-ascending x l a.1)
    where
      go : (t : Bool) → ltb (rank y) (rank x) ≡ t → Ascending rank (among rank x l) → Ascending rank (put_among t x y l (among rank x l))
      go true e r = (
        (λ z h. by_eq x z (λ d. omega (arith, ltb-true (rank y) (rank x) e, ap rank d)) (λ d. a.0 z (omega (arith, among-times x l z, is-not x z d)))),
        r,
      )
      go false e r = (
        (λ z h. by_eq y z (λ d. omega (arith, ltb-false (rank y) (rank x) e, ap rank d)) (λ d. omega (arith, ltb-false (rank y) (rank x) e, a.0 z (omega (arith, is-not y z d))))),
        a,
      )

  pub sorted-ascending : (l : List ℕ) (n : ℕ) → Ascending rank (sorted rank l n)
  unfolding sorted Ascending
  sorted-ascending l zero = tt
  sorted-ascending l (suc n) = among-ascending (get_or l n 0) (sorted rank l n) (sorted-ascending l n)

  pub head-least : (x : ℕ) (l : List ℕ) → Ascending rank (x ∷ l) → (z : ℕ) → 0 < times_in (x ∷ l) z → rank x ≤ rank z
  unfolding times_in Ascending
  head-least x l a z h = by_eq x z (λ d. omega (arith, ap rank d)) (λ d. a.0 z (omega (arith, is-not x z d)))

  -- two ascending lists with the same contents are the same
  pub one-order : (l m : List ℕ) → Ascending rank l → Ascending rank m → ((z : ℕ) → times_in l z ≡ times_in m z) → Apart rank l → l ≡ m
  unfolding times_in Ascending
  one-order [] [] a b e d = refl
  one-order [] (y ∷ m) a b e d = absurd (omega (arith, e y, is-self y))
  one-order (x ∷ l) [] a b e d = absurd (omega (arith, e x, is-self x))
  one-order (x ∷ l) (y ∷ m) a b e d =
      let hx : 0 < is x x + times_in l x = omega (arith, is-self x) in
      let hy : 0 < is x y + times_in l y = omega (arith, e y, is-self y) in
      let same : x ≡ y = d x y hx hy (omega (arith, head-least x l a y hy, head-least y m b x (omega (arith, e x)))) in
      let rest : (z : ℕ) → times_in l z ≡ times_in m z = λ z. omega (arith, e z, ap (λ (u : ℕ). is u z) same) in
      ap (λ (u : ℕ). u ∷ l) same ∙ ap (λ (k : List ℕ). y ∷ k) (one-order l m a.1 b.1 rest (λ p q g h. d p q (omega arith) (omega arith)))

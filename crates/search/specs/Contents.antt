-- What a home holds, as a list in rising order: a heap's nodes sorted, a row's places from one to another. No node stands twice and no two have one
-- rank, so the order is strict.
use Rattle.std.specs.Prelude.{◌≡◌, refl, Bool, false, ℕ, zero, suc, ◌+◌, ◌-◌, ◌<◌, ◌≤◌, get_or, length, take, drop}
use Rattle.std.proofs.Common.{sym, ◌∙◌, inl, inr, add-zero, arith, drop-cons}
use Rattle.std.proofs.Math.Path.{ap}
use Rattle.std.proofs.Math.Bool.{true}
use mathlib.Core.List.{List, [], ◌∷◌}
use Rattle.rules.specs.Laws.Cases.{by_eq}
use Rattle.rules.specs.Laws.In.{In, by_bool}
use Rattle.condition.specs.From.{from}
use Rattle.nodes.specs.Counts.{count, is, is-self, is-not, bit, count-more, count_at}
use Rattle.nodes.specs.Order.{Ordered}
use Rattle.nodes.specs.Holes.{rank_at}
use Rattle.nodes.specs.Sorted.{sorted, times_in, Ascending, Apart, sorted-times, sorted-ascending}
use Rattle.rows.specs.Places.{previous, earlier-first}
use Rattle.drain.specs.Drained.{while}
use Rattle.search.specs.Rising.{Rising}

-- the first n places hold exactly the nodes that pass, each once, and no two of one rank
pub record HoldsExactly (rank : ℕ → ℕ) (p : ℕ → Bool) (places : List ℕ) (n : ℕ) : Type 0 where
  pub has : (z : ℕ) → count places n z ≡ bit (p z)
  pub apart : (y z : ℕ) → p y ≡ true → p z ≡ true → rank y ≡ rank z → y ≡ z

pub bit-most : (t : Bool) → bit t ≤ 1
bit-most true = omega arith
bit-most false = omega arith

pub bit-true : (t : Bool) → 0 < bit t → t ≡ true
bit-true true h = refl
bit-true false h = absurd (omega arith)

-- ---- counting and being in a list
pub times-in : (l : List ℕ) (z : ℕ) → 0 < times_in l z → In z l
unfolding times_in
times-in [] z h = absurd (omega arith)
times-in (x ∷ l) z h = by_eq x z (λ e. inl (sym e)) (λ d. inr (times-in l z (omega (arith, is-not x z d))))

pub in-times : (l : List ℕ) (z : ℕ) → In z l → 0 < times_in l z
unfolding times_in
in-times [] z h = absurd h
in-times (x ∷ l) z (inl e) = omega (arith, is-self x, ap (is x) e)
in-times (x ∷ l) z (inr h) = omega (arith, in-times l z h)

ascending-rising : (rank : ℕ → ℕ) (l : List ℕ) → Ascending rank l → ((z : ℕ) → times_in l z ≤ 1) → ((y z : ℕ) → In y l → In z l → rank y ≡ rank z → y ≡ z) → Rising rank l
unfolding times_in Ascending
ascending-rising rank [] a o d = tt
ascending-rising rank (x ∷ l) a o d = (
  (λ z h. by_eq (rank x) (rank z)
      (λ e. let same : x ≡ z = d x z (inl refl) (inr h) e in absurd (omega (arith, o z, in-times l z h, is-self x, ap (is x) same)))
      (λ n. omega (arith, n, a.0 z (in-times l z h)))),
  ascending-rising rank l a.1 (λ z. omega (arith, o z)) (λ y z p q. d y z (inr p) (inr q)),
)

module _ (rank : ℕ → ℕ) (p : ℕ → Bool) (places : List ℕ) (n : ℕ) (h : HoldsExactly rank p places n) where
  pub passes : (z : ℕ) → 0 < count places n z → p z ≡ true
  passes z q = bit-true (p z) (omega (arith, h.has z))

  pub stands : (z : ℕ) → p z ≡ true → 0 < count places n z
  stands z t = omega (arith, h.has z, ap bit t)

  -- ---- a heap's nodes
  pub in-sorted : (z : ℕ) → In z (sorted rank places n) → p z ≡ true
  in-sorted z i = passes z (omega (arith, in-times (sorted rank places n) z i, sorted-times rank places n z))

  pub sorted-in : (z : ℕ) → p z ≡ true → In z (sorted rank places n)
  sorted-in z t = times-in (sorted rank places n) z (omega (arith, stands z t, sorted-times rank places n z))

  pub sorted_apart : Apart rank (sorted rank places n)
  sorted_apart y z g k e = h.apart y z (in-sorted y (times-in (sorted rank places n) y g)) (in-sorted z (times-in (sorted rank places n) z k)) e

  pub rising-sorted : Rising rank (sorted rank places n)
  rising-sorted = ascending-rising rank (sorted rank places n) (sorted-ascending rank places n)
      (λ z. omega (arith, sorted-times rank places n z, h.has z, bit-most (p z)))
      (λ y z g k e. h.apart y z (in-sorted y g) (in-sorted z k) e)

-- those up to the first whose tag does not hold
module _ (rank : ℕ → ℕ) (tag : ℕ → Bool) where
  pub while-only : (l : List ℕ) (z : ℕ) → In z (while tag l) → In z l × (tag z ≡ true)
  unfolding while
  while-only [] z h = absurd h
  while-only (x ∷ l) z h = by_bool (tag x)
      (λ t. go t (while-only l z) (rw t at h))
      (λ t. absurd (rw t at h))
    where
      go : tag x ≡ true → (In z (while tag l) → In z l × (tag z ≡ true)) → In z (x ∷ while tag l) → In z (x ∷ l) × (tag z ≡ true)
      go t ih (inl e) = (inl e, ap tag e ∙ t)
      go t ih (inr k) = (inr (ih k).0, (ih k).1)

  pub while-rising : (l : List ℕ) → Rising rank l → Rising rank (while tag l)
  unfolding while
  while-rising [] a = tt
  while-rising (x ∷ l) a = by_bool (tag x) (λ t. rw t (λ z h. a.0 z (while-only l z h).0, while-rising l a.1)) (λ t. rw t tt)

  -- where a tag holds, so do those of the nodes that rank before it
  pub while-every : (l : List ℕ) → Rising rank l → ((x y : ℕ) → In x l → In y l → rank x < rank y → tag y ≡ true → tag x ≡ true) → (z : ℕ) → In z l → tag z ≡ true → In z (while tag l)
  unfolding while
  while-every [] a f z h t = absurd h
  while-every (x ∷ l) a f z (inl e) t = rw (sym (ap tag e) ∙ t) (inl e)
  while-every (x ∷ l) a f z (inr h) t = rw (f x z (inl refl) (inr h) (a.0 z h) t) (inr (while-every l a.1 (λ u v p q. f u v (inr p) (inr q)) z h t))

-- ---- a row's places
pub part-from : (l : List ℕ) (a k : ℕ) → a + k ≤ length l → take k (drop a l) ≡ from (λ j. get_or l j 0) k a
part-from l a zero h = refl
part-from l a (suc k) h = rw (drop-cons l a 0 (omega arith)) (ap (λ m. get_or l a 0 ∷ m) (part-from l (suc a) k (omega arith)))

pub from_in : (f : ℕ → ℕ) (k a z : ℕ) → In z (from f k a) → (j : ℕ) × (a ≤ j) × (j < a + k) × (f j ≡ z)
from_in f zero a z h = absurd h
from_in f (suc k) a z (inl e) = (a, omega arith, omega arith, sym e)
from_in f (suc k) a z (inr h) = let r = from_in f k (suc a) z h in (r.0, omega (arith, r.1), omega (arith, r.2), r.3)

pub in-from : (f : ℕ → ℕ) (k a j z : ℕ) → a ≤ j → j < a + k → f j ≡ z → In z (from f k a)
in-from f zero a j z p q e = absurd (omega arith)
in-from f (suc k) a j z p q e = by_eq j a (λ s. inl (sym e ∙ ap f s)) (λ d. inr (in-from f k (suc a) j z (omega arith) (omega arith) e))

rising-from : (rank f : ℕ → ℕ) (k a : ℕ) → ((i j : ℕ) → a ≤ i → i < j → j < a + k → rank (f i) < rank (f j)) → Rising rank (from f k a)
rising-from rank f zero a h = tt
rising-from rank f (suc k) a h = (
  (λ z g. let r = from_in f k (suc a) z g in omega (arith, h a r.0 (omega arith) (omega (arith, r.1)) (omega (arith, r.2)), ap rank r.3)),
  rising-from rank f k (suc a) (λ i j p q r. h i j (omega arith) q (omega arith)),
)

count-grows : (l : List ℕ) (n z k : ℕ) → count l n z ≤ count l (n + k) z
count-grows l n z zero = rw (add-zero n) (omega arith)
count-grows l n z (suc k) = let e : n + suc k ≡ n + k + 1 = omega arith in rw e (omega (arith, count-grows l n z k, count-more l (n + k) z))

twice : (l : List ℕ) (n i j : ℕ) → i < j → j < n → get_or l i 0 ≡ get_or l j 0 → 2 ≤ count l n (get_or l j 0)
twice l n i j p q e =
    let z = get_or l j 0 in
    let full : j + 1 + (n - (j + 1)) ≡ n = omega arith in
    let some : 0 < count l j z = rw e at (count_at l j i p) in
    omega (arith, some, count-more l j z, is-self z, rw full at (count-grows l (j + 1) z (n - (j + 1))))

module _ (rank : ℕ → ℕ) (p : ℕ → Bool) (row : List ℕ) (n : ℕ) (h : HoldsExactly rank p row n) (o : Ordered previous (rank_at rank row) n) where
  pub row-strict : (i j : ℕ) → i < j → j < n → rank (get_or row i 0) < rank (get_or row j 0)
  row-strict i j q r =
      let le = earlier-first (rank_at rank row) n i j o (omega arith) r in
      by_eq (rank (get_or row i 0)) (rank (get_or row j 0))
      (λ e. let same : get_or row i 0 ≡ get_or row j 0 = h.apart (get_or row i 0) (get_or row j 0) (passes rank p row n h (get_or row i 0) (count_at row n i (omega arith))) (passes rank p row n h (get_or row j 0) (count_at row n j r)) e in
      absurd (omega (arith, twice row n i j q r same, h.has (get_or row j 0), bit-most (p (get_or row j 0)))))
      (λ d. omega (arith, le, d))

  pub rising_part : (a b : ℕ) → a ≤ b → b ≤ n → Rising rank (from (λ j. get_or row j 0) (b - a) a)
  rising_part a b q r = rising-from rank (λ j. get_or row j 0) (b - a) a (λ i j s t u. row-strict i j t (omega arith))

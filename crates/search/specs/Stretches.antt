-- A walk over one list after another: what the first finds is found; if it finds nobody, the walk goes on with the next, those evaluated counted.
use Rattle.std.specs.Prelude.{◌≡◌, refl, Bool, List, [], ◌∷◌, ◌++◌, ℕ, zero, suc, ◌+◌, ◌-◌, ◌*◌, ◌<◌, ◌≤◌, length}
use Rattle.std.proofs.Common.{sym, ◌∙◌, length-append, Fits}
use Rattle.std.proofs.Math.Path.{ap}
use Rattle.std.proofs.Math.Option.{Option, none, some}
use native.Mathlib.Omega.{arith}
use Rattle.std.proofs.Math.Nat.{sub-zero}
use Rattle.std.specs.Int.{w64}
use Rattle.rules.specs.Base.{first, gather}
use Rattle.rules.specs.Laws.In.{by_bool, none-some}
use Rattle.rules.specs.Laws.InRankOrder.{up_to}
use Rattle.condition.specs.From.{from}
use Rattle.walk.specs.declared.Walk.{Walk}
use Rattle.walk.specs.declared.Walk.TheVariants.{Found, Nobody}
use Rattle.walk.specs.Walks.{as_walk, walked, walked_on, none_before}

found-not-nobody : {x k n : ℕ} → Found x k ≡ Nobody n → ⊥
found-not-nobody e = let z : ◌≡◌ {A = ℕ} 0 1 = cc in omega arith

module _ (test : ℕ → Bool) where
  first-append : (l m : List ℕ) (x : ℕ) → first test l ≡ some x → (first test (l ++ m) ≡ some x) × (up_to test (l ++ m) ≡ up_to test l)
  first-append [] m x e = absurd (none-some e)
  first-append (y ∷ l) m x e = by_bool (test y)
      (λ t. (rw t (rw t at e), rw t refl))
      (λ t. let r = first-append l m x (rw t at e) in (rw t r.0, rw t (ap suc r.1)))

  none-append : (l m : List ℕ) → first test l ≡ none → (first test (l ++ m) ≡ first test m) × (up_to test (l ++ m) ≡ up_to test l + up_to test m)
  none-append [] m e = (refl, omega arith)
  none-append (y ∷ l) m e = by_bool (test y)
      (λ t. absurd (none-some (sym (rw t at e))))
      (λ t. let r = none-append l m (rw t at e) in (rw t r.0, rw t (omega (arith, r.1))))

  found-is : (o : Option ℕ) (n x k : ℕ) → Found x k ≡ as_walk o n → (o ≡ some x) × (k ≡ n)
  found-is (some y) n x k e = (cc, cc)
  found-is none n x k e = absurd (found-not-nobody e)

  nobody-is : (o : Option ℕ) (n k : ℕ) → Nobody k ≡ as_walk o n → (o ≡ none) × (k ≡ n)
  nobody-is (some y) n k e = absurd (found-not-nobody (sym e))
  nobody-is none n k e = (refl, cc)

  pub walk-finds : (l m : List ℕ) (c x k : ℕ) → Found x k ≡ walked test l → Found x (c + k) ≡ walked_on test c (l ++ m)
  unfolding walked walked_on
  walk-finds l m c x k e =
      let i = found-is (first test l) (up_to test l) x k e in
      let r = first-append l m x i.0 in
      let n : c + k ≡ c + up_to test (l ++ m) = omega (arith, i.1, r.1) in
      ap (Found x) n ∙ ap (λ o. as_walk o (c + up_to test (l ++ m))) (sym r.0)

  pub walk-goes-on : (l m : List ℕ) (c k : ℕ) → Nobody k ≡ walked test l → walked_on test (c + k) m ≡ walked_on test c (l ++ m)
  unfolding walked walked_on
  walk-goes-on l m c k e =
      let i = nobody-is (first test l) (up_to test l) k e in
      let r = none-append l m i.0 in
      let n : c + k + up_to test m ≡ c + up_to test (l ++ m) = omega (arith, i.1, r.1) in
      ap (as_walk (first test m)) n ∙ ap (λ o. as_walk o (c + up_to test (l ++ m))) (sym r.0)

-- how many a walk evaluated
abbrev pub count_of : Walk → ℕ
count_of (Found x k) = k
count_of (Nobody k) = k

-- a walk with so many evaluated before
abbrev pub counted_from : ℕ → Walk → Walk
counted_from before (Found x k) = Found x (before + k)
counted_from before (Nobody k) = Nobody (before + k)

pub count_most : (test : ℕ → Bool) (l : List ℕ) (most : ℕ) {u : Walk} → u ≡ walked test l → length l ≤ most → count_of u ≤ most
unfolding walked
count_most test l most {u} e h = rw e (go (first test l) (up_to test l) (omega (arith, up_to-most l)))
  where
    up_to-most : (l : List ℕ) → up_to test l ≤ length l
    up_to-most [] = omega arith
    up_to-most (x ∷ l) = by_bool (test x) (λ t. rw t (omega arith)) (λ t. rw t (omega (arith, up_to-most l)))

    go : (o : Option ℕ) (n : ℕ) → n ≤ most → count_of (as_walk o n) ≤ most
    go (some x) n h = h
    go none n h = h

pub nobody-most : (test : ℕ → Bool) (l : List ℕ) (most k : ℕ) {u : Walk} → u ≡ walked test l → u ≡ Nobody k → length l ≤ most → k ≤ most
nobody-most test l most k e d h = rw d at (count_most test l most e h)

-- ---- the answers of `counted`
pub found-fits : {u : Walk} {x k : ℕ} (before : ℕ) → u ≡ Found x k → before ≤ 8192 → count_of u ≤ 8192 → Fits w64 (before + k)
found-fits {u} {x} {k} before e p h = let m : k ≤ 8192 = rw e at h in record { fits = omega arith }

pub nobody-fits : {u : Walk} {k : ℕ} (before : ℕ) → u ≡ Nobody k → before ≤ 8192 → count_of u ≤ 8192 → Fits w64 (before + k)
nobody-fits {u} {k} before e p h = let m : k ≤ 8192 = rw e at h in record { fits = omega arith }

pub after-found : {u : Walk} {x k : ℕ} (before : ℕ) → u ≡ Found x k → Found x (before + k) ≡ counted_from before u
after-found before e = ap (counted_from before) (sym e)

pub after-nobody : {u : Walk} {k : ℕ} (before : ℕ) → u ≡ Nobody k → Nobody (before + k) ≡ counted_from before u
after-nobody before e = ap (counted_from before) (sym e)

-- a walk that finds nobody counts at most so many more
pub counted-most : (u : Walk) {r : Walk} (before most k : ℕ) → r ≡ counted_from before u → r ≡ Nobody k → count_of u ≤ most →
    k ≤ before + most
counted-most (Found x m) before most k t q h = absurd (found-not-nobody (sym t ∙ q))
counted-most (Nobody m) before most k t q h = let c : k ≡ before + m = cc in omega arith

-- so many lists one after the other, from number i on
abbrev pub lists : (ℕ → List ℕ) → ℕ → ℕ → List ℕ
lists f n i = gather f (from (λ j. j) n i)

pub lists-long : (f : ℕ → List ℕ) (n i : ℕ) → ((j : ℕ) → i ≤ j → j < i + n → length (f j) ≤ 128) → length (lists f n i) ≤ n * 128
lists-long f zero i h = omega arith
lists-long f (suc n) i h = omega (arith, length-append (f i) (lists f n (suc i)), h i (omega arith) (omega arith), lists-long f n (suc i) (λ j p q. h j (omega arith) (omega arith)))

-- ---- as the code goes along: f i is walked, and r is what it tells after those before
module _ (test : ℕ → Bool) (f : ℕ → List ℕ) (n : ℕ) where
  abbrev pub lists_left : ℕ → ℕ → Walk
  lists_left before i = walked_on test before (lists f (n - i) i)

  pub lists-start : lists_left 0 0 ≡ walked test (lists f n 0)
  lists-start = rw (sub-zero n) (none_before test (lists f n 0))

  module _ (i before : ℕ) {w : Walk} (e : lists_left before i ≡ w) where
    pub lists-end : n ≤ i → Nobody before ≡ w
    unfolding walked_on
    lists-end h =
        let z : n - i ≡ 0 = omega arith in
        let b : before + 0 ≡ before = omega arith in
        ap Nobody (sym b) ∙ (rw z at e)

    module _ (h : i < n) {r u : Walk} (is : u ≡ walked test (f i)) (told-after : r ≡ counted_from before u) where
      step : n - i ≡ suc (n - (i + 1))
      step = omega arith

      next : suc i ≡ i + 1
      next = omega arith

      split : walked_on test before (f i ++ lists f (n - (i + 1)) (i + 1)) ≡ w
      split = rw (step, next) at e

      pub lists-find : (x k : ℕ) → r ≡ Found x k → r ≡ w
      lists-find x k q = go u is told-after
        where
          go : (u : Walk) → u ≡ walked test (f i) → r ≡ counted_from before u → r ≡ w
          go (Found y m) d t = t ∙ walk-finds test (f i) (lists f (n - (i + 1)) (i + 1)) before y m d ∙ split
          go (Nobody m) d t = absurd (found-not-nobody (sym q ∙ t))

      pub lists-pass : (k : ℕ) → r ≡ Nobody k → lists_left k (i + 1) ≡ w
      lists-pass k q = go u is told-after
        where
          go : (u : Walk) → u ≡ walked test (f i) → r ≡ counted_from before u → lists_left k (i + 1) ≡ w
          go (Found y m) d t = absurd (found-not-nobody (sym t ∙ q))
          go (Nobody m) d t =
              let c : k ≡ before + m = cc in
              ap (λ b. walked_on test b (lists f (n - (i + 1)) (i + 1))) c ∙ walk-goes-on test (f i) (lists f (n - (i + 1)) (i + 1)) before m d ∙ split

      pub lists-most : (k most : ℕ) → r ≡ Nobody k → length (f i) ≤ most → k ≤ before + most
      lists-most k most q l = go u is told-after
        where
          go : (u : Walk) → u ≡ walked test (f i) → r ≡ counted_from before u → k ≤ before + most
          go (Found y m) d t = absurd (found-not-nobody (sym t ∙ q))
          go (Nobody m) d t = let c : k ≡ before + m = cc in omega (arith, count_most test (f i) most d l)

-- ---- two lists, one after the other
module _ (test : ℕ → Bool) (l m : List ℕ) {r : Walk} (first-is : r ≡ walked test l) where
  pub then_found : (x k : ℕ) → r ≡ Found x k → r ≡ walked test (l ++ m)
  then_found x k q = q ∙ ap (Found x) zero_more ∙ walk-finds test l m 0 x k (sym q ∙ first-is) ∙ none_before test (l ++ m)
    where
      zero_more : k ≡ 0 + k
      zero_more = omega arith

  pub then_next : {u : Walk} (k : ℕ) → r ≡ Nobody k → u ≡ walked test m → counted_from k u ≡ walked test (l ++ m)
  unfolding walked walked_on
  then_next {u} k q d = ap (counted_from k) d ∙ both (first test m) (up_to test m) ∙ walk-goes-on test l m 0 k (sym q ∙ first-is) ∙ none_before test (l ++ m)
    where
      zero_more : 0 + k ≡ k
      zero_more = omega arith

      both : (o : Option ℕ) (n : ℕ) → counted_from k (as_walk o n) ≡ as_walk o (0 + k + n)
      both (some x) n = ap (λ b. Found x (b + n)) (sym zero_more)
      both none n = ap (λ b. Nobody (b + n)) (sym zero_more)

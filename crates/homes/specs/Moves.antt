-- A node goes into one home or out of it, and the others stand as they stood.
use Rattle.std.specs.Prelude.{◌≡◌, refl, List, ℕ, ◌+◌, ◌*◌, ◌-◌, ◌<◌, ◌≤◌, get_or, set, length, take, drop}
use Rattle.std.proofs.Common.{ap, ◌∙◌, arith, length-set, length-drop, get_or-set_same, get_or-set_other, length-take-le}
use Rattle.rules.specs.Laws.Cases.{by_lt}
use Rattle.nodes.specs.Counts.{count, is, count-find, count_same}
use Rattle.nodes.specs.Order.{Ordered}
use Rattle.nodes.specs.Holes.{rank_at}
use Rattle.nodes.specs.Rises.{Pushed, Removed}
use Rattle.nodes.specs.Finds.{FirstPlace, none-counted, place-among}
use Rattle.homes.specs.Orders.{over, over-lt}
use Rattle.homes.specs.Regions.{region, put_back, back_long, region-here, region-other}

-- how often node z stands in a home
abbrev pub times_in_home : List ℕ → List ℕ → ℕ → ℕ → ℕ
times_in_home l lengths home z = count (region l home) (get_or lengths home 0) z

-- a home is in order
abbrev pub HomeInOrder : (ℕ → ℕ) → List ℕ → List ℕ → ℕ → Type 0
HomeInOrder rank l lengths home = Ordered (over home) (rank_at rank (region l home)) (get_or lengths home 0)

-- the places past a home's nodes hold 0
abbrev pub Cleared : List ℕ → List ℕ → ℕ → Type 0
Cleared l lengths home = (j : ℕ) → get_or lengths home 0 ≤ j → get_or (region l home) j 0 ≡ 0

-- node x was put into a home
pub record Put (rank : ℕ → ℕ) (l lengths m lengths' : List ℕ) (home x : ℕ) : Type 0 where
  pub long : length m ≡ length l
  pub counted : lengths' ≡ set lengths home (get_or lengths home 0 + 1)
  pub order : HomeInOrder rank l lengths home → HomeInOrder rank m lengths' home
  pub has : (z : ℕ) → times_in_home m lengths' home z ≡ times_in_home l lengths home z + is x z
  pub past : (j : ℕ) → get_or lengths home 0 + 1 ≤ j → get_or (region m home) j 0 ≡ get_or (region l home) j 0
  pub others : (h : ℕ) → h < 34 → (h ≡ home → ⊥) → region m h ≡ region l h

-- node x was taken out of a home
pub record Cut (rank : ℕ → ℕ) (l lengths m lengths' : List ℕ) (home x : ℕ) : Type 0 where
  pub long : length m ≡ length l
  pub counted : lengths' ≡ set lengths home (get_or lengths home 0 - 1)
  pub order : HomeInOrder rank l lengths home → HomeInOrder rank m lengths' home
  pub has : (z : ℕ) → times_in_home m lengths' home z + is x z ≡ times_in_home l lengths home z
  pub freed : get_or (region m home) (get_or lengths home 0 - 1) 0 ≡ 0
  pub past : (j : ℕ) → get_or lengths home 0 ≤ j → get_or (region m home) j 0 ≡ get_or (region l home) j 0
  pub others : (h : ℕ) → h < 34 → (h ≡ home → ⊥) → region m h ≡ region l h

-- a node left n + 1, and the place it freed was cleared: the nodes stand as they stood
record CutOut (parent rank : ℕ → ℕ) (l m : List ℕ) (n k : ℕ) : Type 0 where
  pub order : Ordered parent (rank_at rank l) (n + 1) → Ordered parent (rank_at rank m) n
  pub has : (z : ℕ) → count m n z + is (get_or l k 0) z ≡ count l (n + 1) z
  pub past : (j : ℕ) → n + 1 ≤ j → get_or m j 0 ≡ get_or l j 0

cut_out : (parent : ℕ → ℕ) (lt : (j : ℕ) → 0 < j → parent j < j) (rank : ℕ → ℕ) (l p : List ℕ) (n i : ℕ) → Removed parent rank l p n i → CutOut parent rank l (set p n 0) n i
unfolding Ordered
cut_out parent lt rank l p n i r =
    let same : (j : ℕ) → j < n → get_or (set p n 0) j 0 ≡ get_or p j 0 = λ j h. get_or-set_other p n j 0 0 (omega arith) in
    record {
      order = λ o j a b. omega (arith, r.order o j a b, ap rank (same j b), ap rank (same (parent j) (omega (arith, lt j a))));
      has = λ z. omega (arith, r.has z, count_same (set p n 0) p n z same);
      past = λ j h. get_or-set_other p n j 0 0 (omega arith) ∙ r.past j (omega arith);
    }

-- a home that holds x is not empty, and x stands below its length; k is the number of its places
module _ (l lengths : List ℕ) (home x : ℕ) (held : 0 < times_in_home l lengths home x) where
  pub not-empty : 0 < get_or lengths home 0
  not-empty =
      let s : (j : ℕ) × (j < get_or lengths home 0) × (get_or (region l home) j 0 ≡ x) = count-find (region l home) (get_or lengths home 0) x held in
      omega (arith, s.1)

  pub has-place : (k i : ℕ) → k ≡ 128 → FirstPlace (take k (drop (home * 128) l)) (get_or lengths home 0 - 1 + 1) x i → i ≤ get_or lengths home 0 - 1
  has-place k i size f =
      let n = get_or lengths home 0 in
      let same : n - 1 + 1 ≡ n = omega (arith, not-empty) in
      by_lt i n (λ q. omega arith) (λ q. absurd (none-counted (region l home) n x i (rw (size, same) at f) q held))

  -- the search for x looks at the places below the length, and finds it there
  module _ (k : ℕ) (fits : length l ≡ 4352) (one : home < 34) (most : get_or lengths home 0 ≤ 128) (size : k ≡ 128) where
    abbrev pub searched : List ℕ
    searched = take (get_or lengths home 0 - 1 + 1) (take k (drop (home * 128) l))

    within : get_or lengths home 0 - 1 + 1 ≤ length (take k (drop (home * 128) l))
    within = omega (arith, length-take-le k (drop (home * 128) l) (omega (arith, length-drop (home * 128) l)))

    pub found-place : (i : ℕ) → FirstPlace searched (length searched) x i →
        FirstPlace (take k (drop (home * 128) l)) (get_or lengths home 0 - 1 + 1) x i
    found-place i f = place-among (take k (drop (home * 128) l)) (get_or lengths home 0 - 1 + 1) x i within f

    pub found-below : (i : ℕ) → FirstPlace searched (length searched) x i → i ≤ get_or lengths home 0 - 1
    found-below i f = has-place k i size (found-place i f)

    pub always-found : FirstPlace searched (length searched) x (length searched) → ⊥
    always-found f = absurd (omega (arith, found-below _ f, length-take-le _ (take k (drop (home * 128) l)) within))

-- p is what a home's places, k of them, hold afterwards
module _ (rank : ℕ → ℕ) (l lengths p : List ℕ) (home x k : ℕ) (fits : length l ≡ 4352) (all : length lengths ≡ 34) (one : home < 34) (size : k ≡ 128) where
  part-long : length p ≡ length (take k (drop (home * 128) l)) → length p ≡ 128
  part-long e = e ∙ length-take-le k (drop (home * 128) l) (omega (arith, length-drop (home * 128) l)) ∙ size

  pub put-part : Pushed (over home) rank (take k (drop (home * 128) l)) p (get_or lengths home 0) x →
      Put rank l lengths (put_back l (home * 128) k p) (set lengths home (get_or lengths home 0 + 1)) home x
  put-part r =
      let same : length p ≡ 128 = part-long r.long in
      let s : Pushed (over home) rank (region l home) p (get_or lengths home 0) x = rw size at r in
      let here : region (put_back l (home * 128) 128 p) home ≡ p = region-here l p home fits one same in
      let n : get_or (set lengths home (get_or lengths home 0 + 1)) home 0 ≡ get_or lengths home 0 + 1 = get_or-set_same lengths home (get_or lengths home 0 + 1) 0 (omega arith) in
      rw size
      (record {
        long = back_long l p (home * 128) 128 (omega arith) same;
        counted = refl;
        order = λ o. rw (here, n) (s.order o);
        has = λ z. rw (here, n) (s.has z);
        past = λ j h. rw here (s.past j h);
        others = region-other l p home fits one same;
      })

-- the same where x stood at place i and left, and the place it freed was cleared
module _ (rank : ℕ → ℕ) (l lengths p : List ℕ) (home x k : ℕ) (fits : length l ≡ 4352) (all : length lengths ≡ 34) (one : home < 34) (size : k ≡ 128) (most : get_or lengths home 0 ≤ 128) where
  pub cut-part : (i : ℕ) → 0 < times_in_home l lengths home x → FirstPlace (take k (drop (home * 128) l)) (get_or lengths home 0 - 1 + 1) x i →
      Removed (over home) rank (take k (drop (home * 128) l)) p (get_or lengths home 0 - 1) i →
      Cut rank l lengths (put_back l (home * 128) k (set p (get_or lengths home 0 - 1) 0)) (set lengths home (get_or lengths home 0 - 1)) home x
  cut-part i held f r =
      let n = get_or lengths home 0 - 1 in
      let q = set p n 0 in
      let some : 0 < get_or lengths home 0 = not-empty l lengths home x held in
      let full : get_or lengths home 0 ≡ n + 1 = omega (arith, some) in
      let before : length p ≡ 128 = part-long rank l lengths p home x k fits all one size r.long in
      let same : length q ≡ 128 = length-set p n 0 ∙ before in
      let s : CutOut (over home) rank (region l home) q n i = cut_out (over home) (over-lt home) rank (region l home) p n i (rw size at r) in
      let x' : get_or (region l home) i 0 ≡ x = (rw size at f).here (omega (arith, has-place l lengths home x held k i size f)) in
      let here : region (put_back l (home * 128) 128 q) home ≡ q = region-here l q home fits one same in
      let new : get_or (set lengths home n) home 0 ≡ n = get_or-set_same lengths home n 0 (omega arith) in
      rw size
      (record {
        long = back_long l q (home * 128) 128 (omega arith) same;
        counted = refl;
        order = λ o. rw (here, new) (s.order (rw full at o));
        has = λ z. rw (here, new) (rw (x', ← full) at (s.has z));
        freed = rw here (get_or-set_same p n 0 0 (omega (arith, some)));
        past = λ j h. rw here (s.past j (omega arith));
        others = region-other l q home fits one same;
      })

-- A node is a pair of the rules: a job that waits and one of its alternatives. So the nodes of the leads whose tag holds are the pairs that the
-- rules count, and a list of them in rising order of rank words is a list of pairs in the order of ranks.
use Rattle.std.specs.Prelude.{◌≡◌, refl, Bool, not, List, [], ◌∷◌, map, ℕ, zero, suc, ◌+◌, ◌*◌, ◌/◌, ◌%◌, ◌<◌, ◌≤◌, ltb, ℤ, get_or, if◌then◌else◌}
use Rattle.std.proofs.Common.{sym, ◌∙◌, subst, inl, inr, arith}
use Rattle.std.proofs.Math.Path.{ap}
use Rattle.std.proofs.Math.Bool.{true, false}
use borrow.Author.Tests.{ltb-true, lt-ltb}
use Rattle.rules.specs.Laws.Cases.{by_eq}
use Rattle.rules.specs.Base.{those, gather}
use Rattle.rules.specs.Tag.{tag_holds}
use Rattle.rules.specs.Rank.{before, rank}
use Rattle.rules.specs.Search.{Waiter, Pair, pairs_of, pairs, follows, oldest}
use Rattle.rules.specs.Laws.In.{In, true-not-false, in-those, those-in, gather-in, in-gather}
use Rattle.rules.specs.Laws.Waiting.{of, pairs_of-in}
use Rattle.rules.specs.Laws.Rearranged.{Once, Rearranged, same-members}
use Rattle.rules.proofs.Demands.Ranks.{rank_same}
use Rattle.rules.specs.Laws.InRankOrder.{InRankOrder}
use Rattle.rules.proofs.Laws.InRankOrder.{ordered-once}
use Rattle.condition.specs.From.{from}
use Rattle.condition.specs.Closing.{ClosedSlots}
use Rattle.condition.specs.Closes.{alternative_in, condition_in}
use Rattle.index.specs.Filed.{alternatives_in, node-parts}
use Rattle.search.specs.Rising.{Rising}
use Rattle.search.specs.Contents.{from_in, in-from}
use Rattle.search.specs.Once.{once-those, once-append, once-gather, numbers-once}

module _ (s : ClosedSlots) (ticket entry : List ℕ) where
  -- ---- the jobs that wait, in the order of their numbers
  abbrev pub waiter_at : ℕ → Waiter
  waiter_at j = record { job = j; condition = condition_in s j; ticket = get_or ticket j 0 }

  abbrev pub waiter_if : Bool → ℕ → List Waiter
  waiter_if t j = if t then waiter_at j ∷ [] else []

  unfoldable pub waiters_in : List Waiter
  waiters_in = gather (λ j. waiter_if (ltb 0 (get_or entry j 0)) j) (from (λ j. j) 32 0)

  one-waiter : (t : Bool) (j : ℕ) (w : Waiter) → In w (waiter_if t j) → (t ≡ true) × (w ≡ waiter_at j)
  one-waiter true j w (inl e) = (refl, e)
  one-waiter true j w (inr h) = absurd h
  one-waiter false j w h = absurd h

  pub in-waiters : (w : Waiter) → In w waiters_in → (j : ℕ) × (j < 32) × (0 < get_or entry j 0) × (w ≡ waiter_at j)
  unfolding waiters_in
  in-waiters w h =
      let g = in-gather (λ j. waiter_if (ltb 0 (get_or entry j 0)) j) w (from (λ j. j) 32 0) h in
      let n = from_in (λ j. j) 32 0 g.0 g.1 in
      let o = one-waiter (ltb 0 (get_or entry g.0 0)) g.0 w g.2 in
      (g.0, omega (arith, n.2, n.3), ltb-true 0 (get_or entry g.0 0) o.0, o.1)

  pub waiters-in : (j : ℕ) → j < 32 → 0 < get_or entry j 0 → In (waiter_at j) waiters_in
  unfolding waiters_in
  waiters-in j p q = gather-in (λ k. waiter_if (ltb 0 (get_or entry k 0)) k) j (waiter_at j) (from (λ k. k) 32 0) (in-from (λ k. k) 32 0 j j (omega arith) (omega arith) refl) (rw (lt-ltb 0 (get_or entry j 0) q) (inl refl))

  waiters-once : Once waiters_in
  unfolding waiters_in
  waiters-once = once-gather (λ j. waiter_if (ltb 0 (get_or entry j 0)) j) (λ (w : Waiter). w.job) (from (λ j. j) 32 0) (numbers-once 32 0)
      (λ j. one (ltb 0 (get_or entry j 0)) j) (λ j w h. ap (λ (v : Waiter). v.job) (one-waiter (ltb 0 (get_or entry j 0)) j w h).1)
    where
      one : (t : Bool) (j : ℕ) → Once (waiter_if t j)
      one true j = (λ h. h, tt)
      one false j = tt

  -- ---- a node's pair
  abbrev pub pair_of : ℕ → ℕ → Pair
  pair_of j i = record { waiter = waiter_at j; alternative = alternative_in s (j * 4 + i); rank = rank (alternative_in s (j * 4 + i)) (get_or ticket j 0) i }

  abbrev pub pair_at : ℕ → Pair
  pair_at x = pair_of (x / 4) (x % 4)

  pairs-at : (j n q i : ℕ) (p : Pair) → q ≡ j * 4 + i → In p (pairs_of (waiter_at j) i (from (alternative_in s) n q)) → (k : ℕ) × (i ≤ k) × (k < i + n) × (p ≡ pair_of j k)
  pairs-at j zero q i p e h = absurd h
  pairs-at j (suc n) q i p e (inl d) = (i, omega arith, omega arith, d ∙ ap (λ (x : ℕ). record { waiter = waiter_at j; alternative = alternative_in s x; rank = rank (alternative_in s x) (get_or ticket j 0) i }) e)
  pairs-at j (suc n) q i p e (inr h) = let r = pairs-at j n (suc q) (suc i) p (omega arith) h in (r.0, omega (arith, r.1), omega (arith, r.2), r.3)

  at-pairs : (j n q i k : ℕ) → q ≡ j * 4 + i → i ≤ k → k < i + n → In (pair_of j k) (pairs_of (waiter_at j) i (from (alternative_in s) n q))
  at-pairs j zero q i k e p r = absurd (omega arith)
  at-pairs j (suc n) q i k e p r = by_eq k i
      (λ d. inl (ap (pair_of j) d ∙ ap (λ (x : ℕ). record { waiter = waiter_at j; alternative = alternative_in s x; rank = rank (alternative_in s x) (get_or ticket j 0) i }) (sym e)))
      (λ d. inr (at-pairs j n (suc q) (suc i) k (omega arith) (omega arith) (omega arith)))

  pub in-of : (j : ℕ) (p : Pair) → In p (of (waiter_at j)) → (k : ℕ) × (k < alternatives_in s j) × (p ≡ pair_of j k)
  in-of j p h = let r = pairs-at j (alternatives_in s j) (j * 4) 0 p (omega arith) h in (r.0, omega (arith, r.2), r.3)

  pub of-in : (j k : ℕ) → k < alternatives_in s j → In (pair_of j k) (of (waiter_at j))
  of-in j k h = at-pairs j (alternatives_in s j) (j * 4) 0 k (omega arith) (omega arith) (omega arith)

  of-once : (j : ℕ) → Once (of (waiter_at j))
  of-once j = go (alternatives_in s j) (j * 4) 0
    where
      go : (n q i : ℕ) → Once (pairs_of (waiter_at j) i (from (alternative_in s) n q))
      go zero q i = tt
      go (suc n) q i = (λ h. later (suc i) n (suc q) h (omega arith), go n (suc q) (suc i))
        where
          later : (m n q' : ℕ) → In (record { waiter = waiter_at j; alternative = alternative_in s q; rank = rank (alternative_in s q) (get_or ticket j 0) i }) (pairs_of (waiter_at j) m (from (alternative_in s) n q')) → i < m → ⊥
          later m zero q' h l = h
          later m (suc n) q' (inl e) l = omega (arith, (rank_same (alternative_in s q) (alternative_in s q') (get_or ticket j 0) (get_or ticket j 0) i m (ap (λ (p : Pair). p.rank) e)).1)
          later m (suc n) q' (inr h) l = later (suc m) n (suc q') h (omega arith)

  -- ---- the leads' nodes whose tag holds
  module _ (lead : ℕ → Bool) (waits : (j : ℕ) → lead j ≡ true → (j < 32) × (0 < get_or entry j 0)) (leads : (j : ℕ) → 0 < get_or entry j 0 → follows waiters_in (waiter_at j) ≡ not (lead j)) where
    not-true : (t : Bool) → not t ≡ true → t ≡ false
    not-true true e = true-not-false refl (sym e)
    not-true false e = refl

    double : (t : Bool) → not (not t) ≡ t
    double true = refl
    double false = refl

    in-oldest : (w : Waiter) → In w (oldest waiters_in) → (j : ℕ) × (lead j ≡ true) × (w ≡ waiter_at j)
    in-oldest w h =
        let o = in-those (λ v. not (follows waiters_in v)) waiters_in h in
        let i = in-waiters w o.0 in
        let f : not (not (lead i.0)) ≡ true = ap not (sym (leads i.0 i.2)) ∙ ap (λ v. not (follows waiters_in v)) (sym i.3) ∙ o.1 in
        (i.0, sym (double (lead i.0)) ∙ f, i.3)

    oldest-in : (j : ℕ) → lead j ≡ true → In (waiter_at j) (oldest waiters_in)
    oldest-in j t =
        let q = waits j t in
        those-in (λ v. not (follows waiters_in v)) waiters_in (waiters-in j q.0 q.1) (ap not (leads j q.1) ∙ double (lead j) ∙ t)

    -- all of them, in whatever order
    pub record AllListed (now : List ℤ) (all : List ℕ) : Type 0 where
      pub only : (x : ℕ) → In x all → (lead (x / 4) ≡ true) × (x % 4 < alternatives_in s (x / 4)) × (tag_holds now (alternative_in s x) ≡ true)
      pub every : (x : ℕ) → lead (x / 4) ≡ true → x % 4 < alternatives_in s (x / 4) → tag_holds now (alternative_in s x) ≡ true → In x all

    module _ (now : List ℤ) (all : List ℕ) (listed : AllListed now all) where
      map-in : (l : List ℕ) (x : ℕ) → In x l → In (pair_at x) (map pair_at l)
      map-in [] x h = absurd h
      map-in (y ∷ l) x (inl e) = inl (ap pair_at e)
      map-in (y ∷ l) x (inr h) = inr (map-in l x h)

      in_map : (l : List ℕ) (p : Pair) → In p (map pair_at l) → (x : ℕ) × In x l × (p ≡ pair_at x)
      in_map [] p h = absurd h
      in_map (y ∷ l) p (inl e) = (y, inl refl, e)
      in_map (y ∷ l) p (inr h) = let r = in_map l p h in (r.0, inr r.1, r.2)

      abbrev counted : List Pair
      counted = those (λ p. tag_holds now p.alternative) (pairs (oldest waiters_in))

      into : (p : Pair) → In p counted → In p (map pair_at all)
      into p h =
          let t = in-those (λ q. tag_holds now q.alternative) (pairs (oldest waiters_in)) h in
          let g = in-gather of p (oldest waiters_in) t.0 in
          let o = in-oldest g.0 g.1 in
          let j = o.0 in
          let r = in-of j p (subst (λ (w : Waiter). In p (of w)) o.2 g.2) in
          let k = r.0 in
          let x = j * 4 + k in
          let a : x / 4 ≡ j = omega (arith, r.1) in
          let b : x % 4 ≡ k = omega (arith, r.1) in
          let e : pair_of j k ≡ pair_at x = λ i. pair_of (sym a i) (sym b i) in
          let held : tag_holds now (alternative_in s x) ≡ true = ap (λ (q : Pair). tag_holds now q.alternative) (sym r.2) ∙ t.1 in
          subst (λ q. In q (map pair_at all)) (sym (r.2 ∙ e)) (map-in all x (listed.every x (ap lead a ∙ o.1) (omega (arith, ap (alternatives_in s) a, r.1)) held))

      out_of : (p : Pair) → In p (map pair_at all) → In p counted
      out_of p h =
          let m = in_map all p h in
          let x = m.0 in
          let l = listed.only x m.1 in
          let i : In (pair_at x) (pairs (oldest waiters_in)) = gather-in of (waiter_at (x / 4)) (pair_at x) (oldest waiters_in) (oldest-in (x / 4) l.0) (of-in (x / 4) (x % 4) l.1) in
          subst (λ q. In q counted) (sym m.2) (those-in (λ q. tag_holds now q.alternative) (pairs (oldest waiters_in)) i (ap (λ y. tag_holds now (alternative_in s y)) (node-parts x) ∙ l.2))

      pairs-once : Once (pairs (oldest waiters_in))
      pairs-once = go (oldest waiters_in) (once-those (λ v. not (follows waiters_in v)) waiters_in waiters-once) (λ w h. in-oldest w h)
        where
          go : (l : List Waiter) → Once l → ((w : Waiter) → In w l → (j : ℕ) × (lead j ≡ true) × (w ≡ waiter_at j)) → Once (pairs l)
          go [] o f = tt
          go (w ∷ l) o f =
              let r = f w (inl refl) in
              once-append (of w) (pairs l) (subst (λ (v : Waiter). Once (of v)) (sym r.2) (of-once r.0)) (go l o.1 (λ v h. f v (inr h)))
              (λ p a b. let g = in-gather of p l b in
              o.0 (subst (λ (v : Waiter). In v l) (sym (pairs_of-in g.0 p 0 g.0.condition g.2).0 ∙ (pairs_of-in w p 0 w.condition a).0) g.1))

      pub rearranged : InRankOrder (map pair_at all) → Rearranged counted (map pair_at all)
      rearranged o = same-members counted (map pair_at all) (once-those (λ p. tag_holds now p.alternative) (pairs (oldest waiters_in)) pairs-once) (ordered-once (map pair_at all) o) into out_of

      pub ordered-pairs : (rank : ℕ → ℕ) → Rising rank all → ((x y : ℕ) → In x all → In y all → rank x < rank y → before (pair_at x).rank (pair_at y).rank ≡ true) → InRankOrder (map pair_at all)
      ordered-pairs rank r f = go all r f
        where
          go : (l : List ℕ) → Rising rank l → ((x y : ℕ) → In x l → In y l → rank x < rank y → before (pair_at x).rank (pair_at y).rank ≡ true) → InRankOrder (map pair_at l)
          go [] r f = tt
          go (x ∷ l) r f = (
            (λ q h. let m = in_map l q h in ap (λ (p : Pair). before (pair_at x).rank p.rank) m.2 ∙ f x m.0 (inl refl) (inr m.1) (r.0 m.0 m.1)),
            go l r.1 (λ u v a b. f u v (inr a) (inr b)),
          )

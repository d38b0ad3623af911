-- The three structures of the index are stretches of one list: the leads' nodes whose tag holds, in rising order of rank. An equality tag of a measure
-- holds if its word is that of the measure's value; in a heap the tags that hold come first; those without a tag all hold.
use Rattle.std.specs.Prelude.{◌≡◌, true, ◌&&◌, List, ℕ, ◌+◌, ◌*◌, ◌^◌, ◌<◌, ◌≤◌, get_or}
use Rattle.std.proofs.Common.{sym, ◌∙◌, arith}
use Rattle.std.proofs.Math.Nat.{sub-zero}
use Rattle.rules.specs.Laws.Cases.{by_lt}
use Rattle.rules.specs.Laws.In.{In, both}
use Rattle.filing.specs.Bands as bands
use Rattle.nodes.specs.Counts.{count-find, count_at}
use Rattle.nodes.specs.Order.{Ordered}
use Rattle.nodes.specs.Holes.{rank_at}
use Rattle.nodes.specs.Sorted.{sorted}
use Rattle.rows.specs.Places.{previous}
use Rattle.homes.specs.Orders.{over-row}
use Rattle.homes.specs.Regions.{region}
use Rattle.search.specs.Rising.{Rising, listed, in-listed, listed_in, rising-listed}
use Rattle.search.specs.Bands.{Stretch}
use Rattle.search.specs.Contents.{HoldsExactly, passes, stands, in-sorted, sorted-in, rising-sorted, while-only, while-rising, while-every, from_in, in-from, rising_part}
use Rattle.search.specs.Runs.{nodes_of}
use Rattle.search.specs.Heaps.{thresholds}
use Rattle.search.specs.Live.{Searchable, node, rank_of, tag_for, home_for, tagged, node-is, nodes-apart, by_word, word-before, belongs, home-holds, belongs-node, node-belongs, home-is, fits-is, operator-is, tag_is}
use Rattle.search.specs.Placed.{word_for, placed}

module _ (q : Searchable) where
  -- the leads' nodes whose tag holds, in the order of their ranks
  unfoldable pub holding : List ℕ
  holding = listed (rank_of q) (λ x. node q x && tagged q x) 128

  pub in-holding : (x : ℕ) → In x holding → (node q x ≡ true) × (tagged q x ≡ true)
  unfolding holding
  in-holding x h = both (node q x) (tagged q x) (in-listed (rank_of q) (λ y. node q y && tagged q y) 128 x h).1

  pub holding-in : (x : ℕ) → node q x ≡ true → tagged q x ≡ true → In x holding
  unfolding holding
  holding-in x n t = listed_in (rank_of q) (λ y. node q y && tagged q y) 128 x (node-is q x n).below (rw (n, t))

  pub rising-holding : Rising (rank_of q) holding
  unfolding holding
  rising-holding = rising-listed (rank_of q) (λ y. node q y && tagged q y) 128 (λ y z a b e. nodes-apart q y z (both (node q y) (tagged q y) a).0 (both (node q z) (tagged q z) b).0 e)

  pub holding-words : (x y : ℕ) → In x holding → In y holding → word_for q x < word_for q y → rank_of q x < rank_of q y
  holding-words x y h k l = by_word q x y (in-holding x h).0 l

  abbrev pub Part : ℕ → ℕ → List ℕ → Type 0
  Part = Stretch (rank_of q) (word_for q) holding

  -- ---- a heap
  abbrev heap_of : ℕ → List ℕ
  heap_of g = sorted (rank_of q) (region q.places g) (get_or q.lengths g 0)

  module _ (g : ℕ) (small : g < 32) where
    held : HoldsExactly (rank_of q) (belongs q g) (region q.places g) (get_or q.lengths g 0)
    held = home-holds q g (omega arith)

    of-heap : (x : ℕ) → In x (heap_of g) → (node q x ≡ true) × (home_for q x ≡ g)
    of-heap x h = belongs-node q g x (in-sorted (rank_of q) (belongs q g) (region q.places g) (get_or q.lengths g 0) held x h)

    falls : (x y : ℕ) → In x (heap_of g) → In y (heap_of g) → rank_of q x < rank_of q y → tagged q y ≡ true → tagged q x ≡ true
    falls x y h k r t =
        let a = of-heap x h in
        let b = of-heap y k in
        let w = word-before q x y a.0 b.0 r in
        let up = (node-is q x a.0).high_is in
        let down = (node-is q y b.0).high_is in
        tag_is q x a.0
        ∙ bands.threshold-falls q.now q.room (tag_for q x) (tag_for q y) (fits-is q x) (fits-is q y) (operator-is q x) (operator-is q y)
        (sym (home-is q x) ∙ a.1 ∙ sym b.1 ∙ home-is q y) (omega (arith, sym (home-is q x) ∙ a.1)) (omega (arith, w, up, down)) (sym (tag_is q y b.0) ∙ t)

    pub heap-stretch : Part (2 ^ 46 + g * 2 ^ 41) (2 ^ 46 + g * 2 ^ 41 + 2 ^ 41) (thresholds (tagged q) (rank_of q) q.places q.lengths g)
    unfolding thresholds
    heap-stretch =
        let rises = rising-sorted (rank_of q) (belongs q g) (region q.places g) (get_or q.lengths g 0) held in
        record {
          rising = while-rising (rank_of q) (tagged q) (heap_of g) rises;
          only = λ x h.
              let w = while-only (rank_of q) (tagged q) (heap_of g) x h in
              let a = of-heap x w.0 in
              let b = (placed q x a.0).heap (omega (arith, a.1)) in
              (holding-in x a.0 w.1, omega (arith, b.0, a.1), omega (arith, b.1, a.1));
          every = λ x h lo hi.
              let a = in-holding x h in
              let p = placed q x a.0 in
              let home : home_for q x ≡ g = by_lt (home_for q x) 32
              (λ l. let b = p.heap l in omega (arith, b.0, b.1))
              (λ l. by_lt (home_for q x) 33 (λ m. absurd (omega (arith, p.equality (omega arith), q.fit.few))) (λ m. absurd (omega (arith, p.below, p.untagged (omega (arith, p.below)))))) in
              while-every (rank_of q) (tagged q) (heap_of g) rises falls x
              (sorted-in (rank_of q) (belongs q g) (region q.places g) (get_or q.lengths g 0) held x (node-belongs q g x a.0 home)) a.1;
        }

  -- ---- a row
  module _ (h : ℕ) (row : 32 ≤ h) (small : h < 34) where
    abbrev row_of : List ℕ
    row_of = region q.places h

    abbrev count : ℕ
    count = get_or q.lengths h 0

    row-held : HoldsExactly (rank_of q) (belongs q h) row_of count
    row-held = home-holds q h small

    pub row-order : Ordered previous (rank_at (rank_of q) row_of) count
    row-order = rw (over-row h row) at (q.index.filed.order h small)

    pub in_row : (x : ℕ) → In x (nodes_of row_of count) → (node q x ≡ true) × (home_for q x ≡ h)
    in_row x k =
        let r = from_in (λ j. get_or row_of j 0) count 0 x k in
        belongs-node q h x (passes (rank_of q) (belongs q h) row_of count row-held x (rw r.3 at (count_at row_of count r.0 (omega (arith, r.2)))))

    pub row_in : (x : ℕ) → node q x ≡ true → home_for q x ≡ h → In x (nodes_of row_of count)
    row_in x n e =
        let f : (j : ℕ) × (j < count) × (get_or row_of j 0 ≡ x) = count-find row_of count x (stands (rank_of q) (belongs q h) row_of count row-held x (node-belongs q h x n e)) in
        in-from (λ j. get_or row_of j 0) count 0 f.0 x (omega arith) (omega (arith, f.1)) f.2

    pub rising-row : Rising (rank_of q) (nodes_of row_of count)
    rising-row = rw (sub-zero count) at (rising_part (rank_of q) (belongs q h) row_of count row-held row-order 0 count (omega arith) (omega arith))

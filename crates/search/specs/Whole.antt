-- Equality tags by measure, then the heaps by measure and direction, then the row without tags: together all nodes whose tag holds, in order.
use Rattle.std.specs.Prelude.{◌≡◌, true, List, ◌++◌, pos, get_or}
use Rattle.std.proofs.Common.{sym, ◌∙◌, arith}
use Rattle.std.proofs.Math.Bool.{Bool}
use Prim.Native.Nat.{ℕ, ◌+◌, ◌*◌, ◌^◌, ◌<◌, ◌≤◌}
use Rattle.std.proofs.Math.Dec.{eqb}
use borrow.Author.Tests.{eqb-true, eq-eqb}
use Rattle.rules.specs.Laws.Cases.{by_lt}
use Rattle.rules.specs.Laws.In.{In, in-those, those-in}
use Rattle.filing.specs.Words.{equality_word}
use Rattle.filing.specs.Bands as bands
use Rattle.rows.specs.Halves.{word_of}
use Rattle.homes.specs.Regions.{region}
use Rattle.search.specs.Rising.{rising-those}
use Rattle.search.specs.Stretches.{lists}
use Rattle.search.specs.Bands.{stretch-reaches, stretch-whole, stretch-append, stretch-lists}
use Rattle.search.specs.Runs.{nodes_of, word_run}
use Rattle.search.specs.Lookups.{equalities}
use Rattle.search.specs.Heaps.{thresholds}
use Rattle.search.specs.Live.{Searchable, node, rank_of, tag_for, home_for, tagged, node-is, home-is, fits-is, operator-is, tag_is}
use Rattle.search.specs.Placed.{word_for, placed}
use Rattle.search.specs.Stretched.{holding, in-holding, holding-in, rising-holding, holding-words, Part, heap-stretch, in_row, row_in, rising-row}

module _ (q : Searchable) where
  -- ---- which home a word tells
  word-equality : (x : ℕ) → node q x ≡ true → word_for q x < 2 ^ 46 → home_for q x ≡ 32
  word-equality x n w =
      let p = placed q x n in
      by_lt (home_for q x) 32 (λ l. absurd (omega (arith, (p.heap l).0)))
      (λ l. by_lt (home_for q x) 33 (λ m. omega arith) (λ m. absurd (omega (arith, p.untagged (omega (arith, p.below))))))

  word-untagged : (x : ℕ) → node q x ≡ true → 2 * 2 ^ 46 ≤ word_for q x → home_for q x ≡ 33
  word-untagged x n w =
      let p = placed q x n in
      by_lt (home_for q x) 32 (λ l. absurd (omega (arith, (p.heap l).1)))
      (λ l. by_lt (home_for q x) 33 (λ m. absurd (omega (arith, p.equality (omega arith), q.fit.few))) (λ m. omega (arith, p.below)))

  -- ---- the equality tags of a measure that hold
  equal : ℕ → List ℕ
  equal = equalities q.now q.high (region q.places 32) (get_or q.lengths 32 0)

  module _ (m : ℕ) (small : m < 16) where
    abbrev the_word : ℕ
    the_word = equality_word m (get_or q.now m (pos 0))

    equality-stretch : Part q (0 + m * 2 ^ 42) (0 + m * 2 ^ 42 + 2 ^ 42) (equal m)
    unfolding equal word_run
    equality-stretch =
        let nodes = nodes_of (region q.places 32) (get_or q.lengths 32 0) in
        let is : ℕ → Bool = λ x. eqb (word_of q.high x) the_word in
        record {
          rising = rising-those (rank_of q) is nodes (rising-row q 32 (omega arith) (omega arith));
          only = λ x h.
              let r = in-those is nodes h in
              let a = in_row q 32 (omega arith) (omega arith) x r.0 in
              let w = eqb-true (word_of q.high x) the_word r.1 in
              let b = bands.equality-band m (get_or q.now m (pos 0)) (q.room m) in
              let t = (bands.equality-holds (tag_for q x) (fits-is q x) (operator-is q x) q.now m (sym (home-is q x) ∙ a.1) (q.room m)).0 (sym (node-is q x a.0).high_is ∙ w) in
              (holding-in q x a.0 (tag_is q x a.0 ∙ t), omega (arith, w, b.0), omega (arith, w, b.1));
          every = λ x h lo hi.
              let a = in-holding q x h in
              let e = word-equality x a.0 (omega arith) in
              let up = (node-is q x a.0).high_is in
              let w = (bands.equality-holds (tag_for q x) (fits-is q x) (operator-is q x) q.now m (sym (home-is q x) ∙ e) (q.room m)).1 (sym (tag_is q x a.0) ∙ a.1) (omega (arith, up)) (omega (arith, up)) in
              those-in is nodes (row_in q 32 (omega arith) (omega arith) x a.0 e) (eq-eqb (word_of q.high x) the_word (up ∙ w));
        }

  -- ---- those without a tag
  untagged : List ℕ
  untagged = nodes_of (region q.places 33) (get_or q.lengths 33 0)

  untagged-stretch : Part q (2 * 2 ^ 46) (3 * 2 ^ 46) untagged
  unfolding untagged
  untagged-stretch = record {
    rising = rising-row q 33 (omega arith) (omega arith);
    only = λ x h.
        let a = in_row q 33 (omega arith) (omega arith) x h in
        let w = (placed q x a.0).untagged a.1 in
        let t = bands.untagged-holds (tag_for q x) (fits-is q x) (operator-is q x) q.now (sym (home-is q x) ∙ a.1) in
        (holding-in q x a.0 (tag_is q x a.0 ∙ t), omega (arith, w), omega (arith, w));
    every = λ x h lo hi.
        let a = in-holding q x h in
        row_in q 33 (omega arith) (omega arith) x a.0 (word-untagged x a.0 lo);
  }

  -- ---- all of them
  abbrev heaps : ℕ → List ℕ
  heaps = thresholds (tagged q) (rank_of q) q.places q.lengths

  all-equalities : Part q 0 (2 ^ 46) (lists equal q.measures 0)
  all-equalities =
      let e : 0 + 0 * 2 ^ 42 ≡ 0 = omega arith in
      let d : 0 + (0 + q.measures) * 2 ^ 42 ≡ q.measures * 2 ^ 42 = omega arith in
      let s = stretch-lists (rank_of q) (word_for q) (holding q) (holding-words q) 0 (2 ^ 42) equal q.measures 0 (λ j p r. equality-stretch j (omega (arith, q.fit.few))) in
      stretch-reaches (rank_of q) (word_for q) (holding q) 0 (q.measures * 2 ^ 42) (2 ^ 46) (lists equal q.measures 0) (omega (arith, q.fit.few)) (rw (e, d) at s)
      (λ x h lo hi. let a = in-holding q x h in omega (arith, (placed q x a.0).equality (word-equality x a.0 hi)))

  all-thresholds : Part q (2 ^ 46) (2 * 2 ^ 46) (lists heaps (q.measures * 2) 0)
  all-thresholds =
      let e : 2 ^ 46 + 0 * 2 ^ 41 ≡ 2 ^ 46 = omega arith in
      let d : 2 ^ 46 + (0 + q.measures * 2) * 2 ^ 41 ≡ 2 ^ 46 + q.measures * 2 * 2 ^ 41 = omega arith in
      let s = stretch-lists (rank_of q) (word_for q) (holding q) (holding-words q) (2 ^ 46) (2 ^ 41) heaps (q.measures * 2) 0 (λ j p r. heap-stretch q j (omega (arith, q.fit.few))) in
      stretch-reaches (rank_of q) (word_for q) (holding q) (2 ^ 46) (2 ^ 46 + q.measures * 2 * 2 ^ 41) (2 * 2 ^ 46) (lists heaps (q.measures * 2) 0) (omega (arith, q.fit.few)) (rw (e, d) at s)
      (λ x h lo hi. no_more x h lo hi)
    where
      no_more : (x : ℕ) → In x (holding q) → 2 ^ 46 + q.measures * 2 * 2 ^ 41 ≤ word_for q x → word_for q x < 2 * 2 ^ 46 → ⊥
      no_more x h lo hi =
          let p = placed q x (in-holding q x h).0 in
          by_lt (home_for q x) 32 (λ l. let b = p.heap l in omega (arith, b.1, b.2))
          (λ l. by_lt (home_for q x) 33 (λ m. omega (arith, p.equality (omega arith), q.fit.few)) (λ m. omega (arith, p.untagged (omega (arith, p.below)))))

  word-most : (x : ℕ) → In x (holding q) → word_for q x < 3 * 2 ^ 46
  word-most x h =
      let p = placed q x (in-holding q x h).0 in
      by_lt (home_for q x) 32 (λ l. let b = p.heap l in omega (arith, b.1))
      (λ l. by_lt (home_for q x) 33 (λ m. omega (arith, p.equality (omega arith), q.fit.few)) (λ m. omega (arith, p.untagged (omega (arith, p.below)))))

  -- what a search walks
  unfoldable pub walk_order : List ℕ
  walk_order = lists (equalities q.now q.high (region q.places 32) (get_or q.lengths 32 0)) q.measures 0
      ++ (lists (thresholds (tagged q) (rank_of q) q.places q.lengths) (q.measures * 2) 0 ++ nodes_of (region q.places 33) (get_or q.lengths 33 0))

  pub walks-holding : walk_order ≡ holding q
  unfolding walk_order equal untagged
  walks-holding =
      let end = stretch-append (rank_of q) (word_for q) (holding q) (holding-words q) (2 ^ 46) (2 * 2 ^ 46) (3 * 2 ^ 46) (lists heaps (q.measures * 2) 0) untagged (omega arith) (omega arith) all-thresholds untagged-stretch in
      stretch-whole (rank_of q) (word_for q) (holding q) (3 * 2 ^ 46) (lists equal q.measures 0 ++ (lists heaps (q.measures * 2) 0 ++ untagged)) (rising-holding q)
      (stretch-append (rank_of q) (word_for q) (holding q) (holding-words q) 0 (2 ^ 46) (3 * 2 ^ 46) (lists equal q.measures 0) (lists heaps (q.measures * 2) 0 ++ untagged) (omega arith) (omega arith) all-equalities end)
      word-most

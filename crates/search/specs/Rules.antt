-- The search of the index is the rules' search: what it walks are the alternatives, of the oldest job of each distinct condition, whose tag holds, in
-- the order of ranks; so `law-found` and `law-count` say that it finds and counts what document 01 does.
use Rattle.std.specs.Prelude.{◌≡◌, Bool, true, false, not, ◌&&◌, List, map, ◌++◌, ℕ, ◌+◌, ◌*◌, ◌-◌, ◌/◌, ◌%◌, ◌<◌, ltb, get_or}
use Rattle.std.proofs.Math.Path.{refl, ap}
use Rattle.std.proofs.Common.{sym, ◌∙◌, subst, arith, eqb-true, eq-eqb, ltb-true, lt-ltb}
use Rattle.rules.specs.Condition.{identical, alternative_true}
use Rattle.rules.specs.Tag.{tag, holds, tag_holds}
use Rattle.rules.specs.Rank.{before}
use Rattle.rules.specs.Search.{Waiter, Pair, follows}
use Rattle.rules.specs.Laws.Cases.{by_eq}
use Rattle.rules.specs.Laws.In.{In, by_bool, true-not-false, both, any-in, any_some}
use Rattle.rules.proofs.Laws.Identical.{identical-true, identical-same}
use Rattle.rules.specs.Laws.InRankOrder.{InRankOrder}
use Rattle.rules.proofs.Laws.InRankOrder.{law-found, law-count}
use Rattle.condition.specs.Tags.{tag-means}
use Rattle.condition.specs.Closes.{condition_in, alternative_in}
use Rattle.ranks.specs.Words.{word, high_word, TagFits}
use Rattle.ranks.proofs.Law.{word-order}
use Rattle.nodes.specs.Ranks.{two}
use Rattle.rows.specs.Halves.{word_of}
use Rattle.entries.specs.Entries.{Waits, is_lead, waits-below}
use Rattle.index.specs.Filed.{alternatives_in, node-parts}
use Rattle.walk.specs.Walks.{node_true, walked}
use Rattle.homes.specs.Regions.{region}
use Rattle.search.specs.Stretches.{lists}
use Rattle.search.specs.Runs.{nodes_of}
use Rattle.search.specs.Lookups.{equalities}
use Rattle.search.specs.Heaps.{thresholds}
use Rattle.search.specs.Answers.{answer_for, search_answer, as_answer, same-walk}
use Rattle.search.specs.Pairs.{waiter_at, waiters_in, in-waiters, waiters-in, pair_at, AllListed, rearranged, ordered-pairs}
use Rattle.search.specs.Live.{Searchable, node, rank_of, tag_for, tagged, node-is, fits-is, tag_is}
use Rattle.search.specs.Stretched.{holding, in-holding, holding-in, rising-holding}
use Rattle.search.specs.Whole.{walk_order, walks-holding}

module _ (q : Searchable) where
  abbrev pub waiting : List Waiter
  waiting = waiters_in q.slots q.ticket q.entry

  abbrev at : ℕ → Waiter
  at = waiter_at q.slots q.ticket q.entry

  abbrev pair : ℕ → Pair
  pair = pair_at q.slots q.ticket q.entry

  abbrev alternative : ℕ → List Rattle.rules.specs.Condition.Atom
  alternative = alternative_in q.slots

  -- ---- the leads are the oldest
  lead-waits : (j : ℕ) → is_lead q.entry j ≡ true → (j < 32) × (0 < get_or q.entry j 0)
  lead-waits j t =
      let w : Waits q.entry j = omega (arith, eqb-true (get_or q.entry j 0) (j + 1) t) in
      (waits-below q.entry 32 j (omega (arith, q.index.size)) w, w)

  nobody-older : (j : ℕ) → 0 < get_or q.entry j 0 → is_lead q.entry j ≡ true → follows waiting (at j) ≡ true → ⊥
  nobody-older j w t f =
      let a = any_some (λ (v : Waiter). identical v.condition (at j).condition && ltb v.ticket (at j).ticket) waiting f in
      let k = in-waiters q.slots q.ticket q.entry a.0 a.1 in
      let b = both (identical a.0.condition (at j).condition) (ltb a.0.ticket (at j).ticket) a.2 in
      let same : condition_in q.slots k.0 ≡ condition_in q.slots j = ap (λ (v : Waiter). v.condition) (sym k.3) ∙ identical-true a.0.condition (at j).condition b.0 in
      let l = q.index.entries j w in
      let me : get_or q.entry j 0 - 1 ≡ j = omega (arith, eqb-true (get_or q.entry j 0) (j + 1) t) in
      omega (arith, l.oldest k.0 k.2 same, ap (λ u. get_or q.ticket u 0) me, ltb-true a.0.ticket (at j).ticket b.1, ap (λ (v : Waiter). v.ticket) k.3)

  one-older : (j : ℕ) → 0 < get_or q.entry j 0 → is_lead q.entry j ≡ false → follows waiting (at j) ≡ true
  one-older j w t =
      let n = get_or q.entry j 0 - 1 in
      let l = q.index.entries j w in
      let first = l.oldest j w refl in
      let less : get_or q.ticket n 0 < get_or q.ticket j 0 = by_eq (get_or q.ticket n 0) (get_or q.ticket j 0)
      (λ e. true-not-false (eq-eqb (get_or q.entry j 0) (j + 1) (omega (arith, q.index.distinct n j l.waits w e))) t) (λ d. omega (arith, first)) in
      any-in (λ (v : Waiter). identical v.condition (at j).condition && ltb v.ticket (at j).ticket) {a = at n} waiting
      (waiters-in q.slots q.ticket q.entry n (waits-below q.entry 32 n (omega (arith, q.index.size)) l.waits) l.waits)
      (rw (ap (λ c. identical c (condition_in q.slots j)) l.same ∙ identical-same (condition_in q.slots j), lt-ltb (get_or q.ticket n 0) (get_or q.ticket j 0) less))

  leads-oldest : (j : ℕ) → 0 < get_or q.entry j 0 → follows waiting (at j) ≡ not (is_lead q.entry j)
  leads-oldest j w = by_bool (is_lead q.entry j)
      (λ t. by_bool (follows waiting (at j)) (λ f. absurd (nobody-older j w t f)) (λ f. rw t f))
      (λ t. rw t (one-older j w t))

  -- ---- tags and ranks of nodes
  tag_of : (x : ℕ) → tag_for q x ≡ tag (alternative x)
  tag_of x = tag-means q.slots.atoms q.slots.measure q.slots.operator q.slots.key (λ k. omega (arith, q.fit.operator k)) x

  tagged_is : (x : ℕ) → node q x ≡ true → tagged q x ≡ tag_holds q.now (alternative x)
  tagged_is x n = tag_is q x n ∙ ap (holds q.now) (tag_of x)

  nodes-listed : AllListed q.slots q.ticket q.entry (is_lead q.entry) lead-waits leads-oldest q.now (holding q)
  nodes-listed = record {
    only = λ x h.
        let a = in-holding q x h in
        let n = node-is q x a.0 in
        (n.lead, n.one_of, sym (tagged_is x a.0) ∙ a.1);
    every = λ x l c t.
        let n : node q x ≡ true = rw (l, lt-ltb (x % 4) (alternatives_in q.slots (x / 4)) c) in
        holding-in q x n (tagged_is x n ∙ t);
  }

  rank-word : (x : ℕ) → node q x ≡ true → rank_of q x ≡ word (alternative (x / 4 * 4 + x % 4)) (get_or q.ticket (x / 4) 0) (x % 4)
  unfolding two
  rank-word x n =
      let i = node-is q x n in
      let h : word_of q.high x ≡ high_word (tag (alternative (x / 4 * 4 + x % 4))) = i.high_is ∙ ap high_word (tag_of x) ∙ ap (λ y. high_word (tag (alternative y))) (sym (node-parts x)) in
      (λ k. two (h k) (i.low-is k))

  in-rank-order : (x y : ℕ) → In x (holding q) → In y (holding q) → rank_of q x < rank_of q y → before (pair x).rank (pair y).rank ≡ true
  in-rank-order x y h k l =
      let a = in-holding q x h in
      let b = in-holding q y k in
      let fits : (z : ℕ) → TagFits (tag (alternative (z / 4 * 4 + z % 4))) = λ z. subst TagFits (tag_of z ∙ ap (λ y. tag (alternative y)) (sym (node-parts z))) (fits-is q z) in
      let held : (z : ℕ) → node q z ≡ true → tagged q z ≡ true → tag_holds q.now (alternative (z / 4 * 4 + z % 4)) ≡ true =
      λ z n t. ap (λ y. tag_holds q.now (alternative y)) (node-parts z) ∙ sym (tagged_is z n) ∙ t in
      word-order q.now (alternative (x / 4 * 4 + x % 4)) (alternative (y / 4 * 4 + y % 4)) (get_or q.ticket (x / 4) 0) (get_or q.ticket (y / 4) 0) (x % 4) (y % 4)
      (held x a.0 a.1) (held y b.0 b.1) (fits x) (fits y) (q.ticket-fits (x / 4)) (q.ticket-fits (y / 4)) (omega arith) (omega arith)
      ∙ lt-ltb (word (alternative (x / 4 * 4 + x % 4)) (get_or q.ticket (x / 4) 0) (x % 4)) (word (alternative (y / 4 * 4 + y % 4)) (get_or q.ticket (y / 4) 0) (y % 4))
      (omega (arith, l, rank-word x a.0, rank-word y b.0))

  pairs-ordered : InRankOrder (map pair (holding q))
  pairs-ordered = ordered-pairs q.slots q.ticket q.entry (is_lead q.entry) lead-waits leads-oldest q.now (holding q) nodes-listed (rank_of q) (rising-holding q) in-rank-order

  -- ---- the theorem
  abbrev pub test : ℕ → Bool
  test = node_true q.now q.slots.atoms q.slots.measure q.slots.operator q.slots.key

  pub search-is-the-rules-search : as_answer (walked test (walk_order q)) ≡ search_answer q.now waiting
  search-is-the-rules-search =
      let held = rearranged q.slots q.ticket q.entry (is_lead q.entry) lead-waits leads-oldest q.now (holding q) nodes-listed pairs-ordered in
      ap (λ l. as_answer (walked test l)) (walks-holding q)
      ∙ same-walk pair q.now test (holding q)
      (λ x h. let small : x % 128 ≡ x = omega (arith, (node-is q x (in-holding q x h).0).below) in ap (λ y. alternative_true q.now (alternative y)) (small ∙ sym (node-parts x)))
      (λ x. refl)
      ∙ (λ i. answer_for (law-found q.now waiting (map pair (holding q)) pairs-ordered held i) (law-count q.now waiting (map pair (holding q)) pairs-ordered held i))

  -- as the code tells it
  pub walked-order : as_answer (walked test (lists (equalities q.now q.high (region q.places 32) (get_or q.lengths 32 0)) q.measures 0
      ++ (lists (thresholds (tagged q) (rank_of q) q.places q.lengths) (q.measures * 2) 0 ++ nodes_of (region q.places 33) (get_or q.lengths 33 0)))) ≡ as_answer (walked test (walk_order q))
  unfolding walk_order
  walked-order = refl

-- An index that keeps its invariant is fit to be searched: no home has more nodes than places, rows are in the order of words, heaps in theirs.
use Rattle.std.specs.Prelude.{◌≡◌, refl, Bool, List, ◌++◌, ℕ, ◌*◌, ◌-◌, ◌%◌, ◌^◌, ◌<◌, ◌≤◌, ℤ, get_or, length, take, drop}
use Rattle.std.proofs.Common.{ap, ◌∙◌, arith, length-append, length-drop, length-take-le}
use Rattle.std.proofs.Math.Nat.{sub-zero}
use Rattle.condition.specs.From.{from-many}
use Rattle.nodes.specs.Order.{Ordered}
use Rattle.nodes.specs.Holes.{rank_at}
use Rattle.rows.specs.Places.{previous}
use Rattle.rows.specs.Halves.{word_of}
use Rattle.rows.specs.Words.{words-ordered}
use Rattle.homes.specs.Orders.{over-heap}
use Rattle.homes.specs.Regions.{region}
use Rattle.walk.specs.declared.Walk.{Walk}
use Rattle.walk.specs.Walks.{walked}
use Rattle.index.specs.Across.{at-most-all}
use Rattle.search.specs.Contents.{bit-most, passes, sorted_apart, part-from, in-from}
use Rattle.search.specs.Stretches.{lists, lists-long}
use Rattle.search.specs.Runs.{nodes_of}
use Rattle.search.specs.Lookups.{equalities, equalities-most}
use Rattle.search.specs.Heaps.{Ready, thresholds, thresholds-most}
use Rattle.search.specs.Live.{Searchable, rank_of, node-is, low_fits, belongs, home-holds, belongs-node}
use Rattle.search.specs.Stretched.{row-order, in_row}

-- what the code asks of the homes
pub record Prepared (rank : ℕ → ℕ) (high places lengths : List ℕ) : Type 0 where
  pub long : length places ≡ 4352
  pub many : length lengths ≡ 34
  pub equalities-few : get_or lengths 32 0 ≤ 128
  pub equalities-order : Ordered previous (rank_at (word_of high) (region places 32)) (get_or lengths 32 0)
  pub heaps : (g : ℕ) → g < 32 → Ready rank places lengths g
  pub untagged-few : get_or lengths 33 0 ≤ 128

-- how many nodes each part of a search has
module _ (rank : ℕ → ℕ) (high places lengths : List ℕ) (measures : ℕ) (few : measures ≤ 16) (p : Prepared rank high places lengths) where
  pub equalities-long : (now : List ℤ) → length (lists (equalities now high (region places 32) (get_or lengths 32 0)) measures 0) ≤ 2048
  equalities-long now = omega (arith, lists-long (equalities now high (region places 32) (get_or lengths 32 0)) measures 0 (λ j q r. equalities-most now high (region places 32) (get_or lengths 32 0) j 128 p.equalities-few))

  pub thresholds-long : (tag : ℕ → Bool) → length (lists (thresholds tag rank places lengths) (measures * 2) 0) ≤ 4096
  thresholds-long tag = omega (arith, lists-long (thresholds tag rank places lengths) (measures * 2) 0 (λ j q r. thresholds-most tag rank places lengths j (p.heaps j (omega arith))))

  pub untagged-long : length (nodes_of (region places 33) (get_or lengths 33 0)) ≤ 128
  untagged-long = omega (arith, from-many (λ j. get_or (region places 33) j 0) (get_or lengths 33 0) 0, p.untagged-few)

  pub rest-long : (tag : ℕ → Bool) → length (lists (thresholds tag rank places lengths) (measures * 2) 0 ++ nodes_of (region places 33) (get_or lengths 33 0)) ≤ 8192
  rest-long tag = omega (arith, length-append (lists (thresholds tag rank places lengths) (measures * 2) 0) (nodes_of (region places 33) (get_or lengths 33 0)), thresholds-long tag, untagged-long)

  pub untagged-part : take (get_or lengths 33 0) (drop 0 (region places 33)) ≡ nodes_of (region places 33) (get_or lengths 33 0)
  untagged-part =
      part-from (region places 33) 0 (get_or lengths 33 0)
      (omega (arith, p.untagged-few, length-take-le 128 (drop (33 * 128) places) (omega (arith, length-drop (33 * 128) places, p.long))))

  pub untagged-told : (test : ℕ → Bool) {w : Walk} → w ≡ walked test (take (get_or lengths 33 0 - 0) (drop 0 (take 128 (drop 4224 places)))) → w ≡ walked test (nodes_of (region places 33) (get_or lengths 33 0))
  untagged-told test e = (rw (sub-zero (get_or lengths 33 0)) at e) ∙ ap (walked test) untagged-part

module _ (q : Searchable) where
  few : (h : ℕ) → h < 34 → get_or q.lengths h 0 ≤ 128
  few h p =
      let k = home-holds q h p in
      at-most-all (region q.places h) (get_or q.lengths h 0)
      (λ z c. (node-is q z (belongs-node q h z (passes (rank_of q) (belongs q h) (region q.places h) (get_or q.lengths h 0) k z c)).0).below)
      (λ z. omega (arith, k.has z, bit-most (belongs q h z)))

  row_fits : (j : ℕ) → j < get_or q.lengths 32 0 → get_or q.low (get_or (region q.places 32) j 0 % 128) 0 < 2 ^ 64
  row_fits j h =
      let x = get_or (region q.places 32) j 0 in
      low_fits q x (in_row q 32 (omega arith) (omega arith) x (in-from (λ k. get_or (region q.places 32) k 0) (get_or q.lengths 32 0) 0 j x (omega arith) (omega arith) refl)).0

  pub prepared : Prepared (rank_of q) q.high q.places q.lengths
  prepared = record {
    long = q.index.filed.long;
    many = q.index.filed.many;
    equalities-few = few 32 (omega arith);
    equalities-order = words-ordered q.high q.low (region q.places 32) (get_or q.lengths 32 0) row_fits (row-order q 32 (omega arith) (omega arith));
    heaps = λ g h. record {
      few = few g (omega arith);
      order = rw (over-heap g h) at (q.index.filed.order g (omega arith));
      apart = sorted_apart (rank_of q) (belongs q g) (region q.places g) (get_or q.lengths g 0) (home-holds q g (omega arith));
    };
    untagged-few = few 33 (omega arith);
  }

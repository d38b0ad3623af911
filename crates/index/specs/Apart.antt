-- No two nodes have one rank: the low word of a node tells its ticket and its alternative, and tickets of waiting jobs differ.
use Rattle.std.specs.Prelude.{◌≡◌, true, List, ℕ, ◌+◌, ◌*◌, ◌/◌, ◌%◌, ◌^◌, ◌<◌, ltb, get_or}
use Rattle.std.proofs.Common.{ap, ◌∙◌, arith, eqb-true}
use Rattle.rules.specs.Laws.In.{both}
use Rattle.condition.specs.Closing.{ClosedSlots}
use Rattle.ranks.specs.Words.{low_word}
use Rattle.nodes.specs.Ranks.{two, rank}
use Rattle.entries.specs.Entries.{Waits, is_lead, waits-below}
use Rattle.index.specs.Filed.{alternatives_in, is_node}
use Rattle.index.specs.Index.{Index}

two-low : (a b c d : ℕ) → b < 2 ^ 64 → d < 2 ^ 64 → two a b ≡ two c d → b ≡ d
unfolding two
two-low a b c d p q e = omega arith

module _ (s : ClosedSlots) (ticket entry high low places lengths : List ℕ) (q : Index s ticket entry high low places lengths) where
  waits-of : (x : ℕ) → is_node s entry x ≡ true → Waits entry (x / 4)
  waits-of x t = omega (arith, eqb-true (get_or entry (x / 4) 0) (x / 4 + 1) (both (is_lead entry (x / 4)) (ltb (x % 4) (alternatives_in s (x / 4))) t).0)

  low_of : (x : ℕ) → is_node s entry x ≡ true → get_or low (x % 128) 0 ≡ low_word (get_or ticket (x / 4) 0) (x % 4)
  low_of x t =
      let w = waits-of x t in
      let same : x % 128 ≡ x / 4 * 4 + x % 4 = omega (arith, waits-below entry 32 (x / 4) (omega (arith, q.size)) w) in
      ap (λ (y : ℕ). get_or low y 0) same ∙ (q.words (x / 4) (x % 4) w (omega arith)).1

  module _ (tickets : (j : ℕ) → get_or ticket j 0 < 2 ^ 32) where
    pub low_fits : (x : ℕ) → is_node s entry x ≡ true → get_or low (x % 128) 0 < 2 ^ 64
    low_fits x t = omega (arith, low_of x t, tickets (x / 4))

    pub nodes-apart : (y z : ℕ) → is_node s entry y ≡ true → is_node s entry z ≡ true → rank high low y ≡ rank high low z → y ≡ z
    nodes-apart y z f g e =
        let l = two-low (get_or high (y % 128) 0) (get_or low (y % 128) 0) (get_or high (z % 128) 0) (get_or low (z % 128) 0) (low_fits y f) (low_fits z g) e in
        let j : y / 4 ≡ z / 4 = q.distinct (y / 4) (z / 4) (waits-of y f) (waits-of z g) (omega (arith, l, low_of y f, low_of z g)) in
        omega (arith, j, l, low_of y f, low_of z g, ap (λ (u : ℕ). get_or ticket u 0) j)

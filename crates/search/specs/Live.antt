-- What a search looks at, and what the invariant of the index says of a lead's node: it is below 128, its rank words are those of its tag and its job's ticket, and no other
-- has its rank, since no two waiting jobs have one ticket.
use Rattle.std.specs.Prelude.{◌≡◌, Bool, true, ◌&&◌, List, ℕ, ◌+◌, ◌*◌, ◌/◌, ◌%◌, ◌^◌, ◌<◌, ◌≤◌, eqb, ltb, ℤ, pos, get_or}
use Rattle.std.proofs.Common.{sym, ap, ◌∙◌, arith, eqb-true, eq-eqb, ltb-true}
use Rattle.std.proofs.Math.Option.{Option}
use Rattle.rules.specs.Limits.{key_most}
use Rattle.rules.specs.Condition.{Atom}
use Rattle.rules.specs.Tag.{holds}
use Rattle.rules.specs.Laws.In.{both}
use Rattle.rules.specs.Laws.Bounds.{Within}
use Rattle.condition.specs.Measures.{AllIn}
use Rattle.condition.specs.Closing.{ClosedSlots}
use Rattle.ranks.specs.Words.{key_room, high_word, low_word, TagFits}
use Rattle.filing.specs.Homes.{home, home-means}
use Rattle.filing.specs.Kinds.{TagOperator}
use Rattle.filing.specs.Filed.{node-fits, node-operator}
use Rattle.nodes.specs.Ranks.{two, rank}
use Rattle.rows.specs.Halves.{word_of}
use Rattle.homes.specs.Regions.{region}
use Rattle.entries.specs.Entries.{Waits, is_lead, waits-below}
use Rattle.index.specs.Filed.{home_in, tag_in, alternatives_in, is_node}
use Rattle.index.specs.Apart as apart
use Rattle.index.specs.Index.{Index}
use Rattle.drain.specs.Drained.{node_tag}
use Rattle.search.specs.Contents.{HoldsExactly}

-- what stands in the slots of all conditions keeps to document 01's ranges, in a room with so many measures
pub record SlotsFit (measures : ℕ) (s : ClosedSlots) : Type 0 where
  pub few : measures ≤ 16
  pub measure : (k : ℕ) → get_or s.measure k 0 < measures
  pub operator : (k : ℕ) → get_or s.operator k 0 ≤ 6
  pub key : AllIn key_most s.key

-- an index that keeps its invariant, and the values of the measures
pub record Searchable : Type 0 where
  pub measures : ℕ
  pub slots : ClosedSlots
  pub ticket : List ℕ
  pub entry : List ℕ
  pub high : List ℕ
  pub low : List ℕ
  pub places : List ℕ
  pub lengths : List ℕ
  pub now : List ℤ
  pub fit : SlotsFit measures slots
  pub index : Index slots ticket entry high low places lengths
  pub ticket-fits : (k : ℕ) → get_or ticket k 0 < 2 ^ 32
  pub room : (m : ℕ) → Within key_room (get_or now m (pos 0))

two-high : (a b c d : ℕ) → b < 2 ^ 64 → d < 2 ^ 64 → two a b < two c d → a ≤ c
unfolding two
two-high a b c d p q e = omega arith

two-less : (a b c d : ℕ) → b < 2 ^ 64 → a < c → two a b < two c d
unfolding two
two-less a b c d p h = omega arith

module _ (q : Searchable) where
  abbrev pub node : ℕ → Bool
  node = is_node q.slots q.entry

  abbrev pub rank_of : ℕ → ℕ
  rank_of = rank q.high q.low

  abbrev pub tag_for : ℕ → Option Atom
  tag_for = tag_in q.slots

  abbrev pub home_for : ℕ → ℕ
  home_for = home_in q.slots

  -- the tag of a node holds, as the code asks
  abbrev pub tagged : ℕ → Bool
  tagged = node_tag q.now q.slots.atoms q.slots.measure q.slots.operator q.slots.key

  pub record Node (x : ℕ) : Type 0 where
    pub below : x < 128
    pub lead : is_lead q.entry (x / 4) ≡ true
    pub waits : Waits q.entry (x / 4)
    pub one_of : x % 4 < alternatives_in q.slots (x / 4)
    pub high_is : word_of q.high x ≡ high_word (tag_for x)
    pub low-is : get_or q.low (x % 128) 0 ≡ low_word (get_or q.ticket (x / 4) 0) (x % 4)

  pub node-is : (x : ℕ) → node x ≡ true → Node x
  node-is x t =
      let b = both (is_lead q.entry (x / 4)) (ltb (x % 4) (alternatives_in q.slots (x / 4))) t in
      let e = eqb-true (get_or q.entry (x / 4) 0) (x / 4 + 1) b.0 in
      let w : Waits q.entry (x / 4) = omega (arith, e) in
      let job : x / 4 < 32 = waits-below q.entry 32 (x / 4) (omega (arith, q.index.size)) w in
      let same : x / 4 * 4 + x % 4 ≡ x = omega arith in
      let small : x % 128 ≡ x = omega arith in
      let r = q.index.words (x / 4) (x % 4) w (omega arith) in
      record {
        below = omega arith;
        lead = b.0;
        waits = w;
        one_of = ltb-true (x % 4) (alternatives_in q.slots (x / 4)) b.1;
        high_is = ap (λ y. get_or q.high y 0) (small ∙ sym same) ∙ r.0 ∙ ap (λ y. high_word (tag_for y)) same;
        low-is = ap (λ y. get_or q.low y 0) (small ∙ sym same) ∙ r.1;
      }

  pub low_fits : (x : ℕ) → node x ≡ true → get_or q.low (x % 128) 0 < 2 ^ 64
  low_fits x n = apart.low_fits q.slots q.ticket q.entry q.high q.low q.places q.lengths q.index q.ticket-fits x n

  pub nodes-apart : (y z : ℕ) → node y ≡ true → node z ≡ true → rank_of y ≡ rank_of z → y ≡ z
  nodes-apart y z f g e = apart.nodes-apart q.slots q.ticket q.entry q.high q.low q.places q.lengths q.index q.ticket-fits y z f g e

  pub by_word : (x y : ℕ) → node x ≡ true → word_of q.high x < word_of q.high y → rank_of x < rank_of y
  by_word x y n h = two-less (word_of q.high x) (get_or q.low (x % 128) 0) (word_of q.high y) (get_or q.low (y % 128) 0) (low_fits x n) h

  pub word-before : (x y : ℕ) → node x ≡ true → node y ≡ true → rank_of x < rank_of y → word_of q.high x ≤ word_of q.high y
  word-before x y n m h = two-high (word_of q.high x) (get_or q.low (x % 128) 0) (word_of q.high y) (get_or q.low (y % 128) 0) (low_fits x n) (low_fits y m) h

  -- ---- a home holds the nodes that belong there
  abbrev pub belongs : ℕ → ℕ → Bool
  belongs h x = node x && eqb (home_for x) h

  pub home-holds : (h : ℕ) → h < 34 → HoldsExactly rank_of (belongs h) (region q.places h) (get_or q.lengths h 0)
  home-holds h p = record {
    has = λ z. q.index.filed.has h z p;
    apart = λ y z a b e. nodes-apart y z (both (node y) (eqb (home_for y) h) a).0 (both (node z) (eqb (home_for z) h) b).0 e;
  }

  pub belongs-node : (h x : ℕ) → belongs h x ≡ true → (node x ≡ true) × (home_for x ≡ h)
  belongs-node h x t = let b = both (node x) (eqb (home_for x) h) t in (b.0, eqb-true (home_for x) h b.1)

  pub node-belongs : (h x : ℕ) → node x ≡ true → home_for x ≡ h → belongs h x ≡ true
  node-belongs h x t e = rw (t, eq-eqb (home_for x) h e)

  -- ---- its tag
  pub home-is : (x : ℕ) → home_for x ≡ home (tag_for x)
  home-is x = home-means q.slots.atoms q.slots.measure q.slots.operator q.slots.key x

  pub fits-is : (x : ℕ) → TagFits (tag_for x)
  fits-is x = node-fits q.slots.atoms q.slots.measure q.slots.operator q.slots.key x (λ k. omega (arith, q.fit.measure k, q.fit.few)) q.fit.key

  pub operator-is : (x : ℕ) → TagOperator (tag_for x)
  operator-is x = node-operator q.slots.atoms q.slots.measure q.slots.operator q.slots.key x q.fit.operator

  pub tag_is : (x : ℕ) → node x ≡ true → tagged x ≡ holds q.now (tag_for x)
  tag_is x n = let e : x % 128 ≡ x = omega (arith, (node-is x n).below) in ap (λ y. holds q.now (tag_for y)) e

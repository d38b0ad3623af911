-- The index does not look at the slots of a job that is not in it: its entry is 0, so it is no lead, and none of its nodes is filed. So what
-- stands in that job's slots, its ticket and its rank words may change.
use Rattle.std.specs.Prelude.{◌≡◌, refl, true, false, ◌&&◌, List, ℕ, ◌+◌, ◌-◌, ◌*◌, ◌/◌, ◌%◌, ◌<◌, ◌≤◌, min, eqb, ltb, get_or}
use Rattle.std.proofs.Common.{sym, ap, ◌∙◌, arith, eqb-true, ne_eqb}
use Rattle.rules.specs.Laws.Cases.{by_eq}
use Rattle.rules.specs.Tag.{tag}
use Rattle.rules.specs.Laws.In.{both}
use Rattle.condition.specs.Closed.{alternative_at}
use Rattle.condition.specs.Closing.{ClosedSlots}
use Rattle.condition.specs.Closes.{condition_in}
use Rattle.condition.specs.Tags.{tag-means}
use Rattle.filing.specs.Homes.{home, home-means}
use Rattle.ranks.specs.Words.{high_word, low_word}
use Rattle.nodes.specs.Counts.{bit, count_at}
use Rattle.nodes.specs.Order.{Ordered}
use Rattle.nodes.specs.Ranks.{two, rank}
use Rattle.homes.specs.Orders.{over, over-lt}
use Rattle.homes.specs.Regions.{region}
use Rattle.homes.specs.Moves.{times_in_home, HomeInOrder}
use Rattle.entries.specs.Entries.{Waits, is_lead, Led, Entries, waits-below}
use Rattle.index.specs.Filed.{home_in, tag_in, alternatives_in, is_node, Filed, node-parts}
use Rattle.index.specs.Keeps.{bit-some}
use Rattle.index.specs.Index.{Index}

-- nodes that rank as they ranked are in order as they were
order_same : (rank rank' : ℕ → ℕ) (l n : List ℕ) (h : ℕ) → ((x : ℕ) → 0 < times_in_home l n h x → rank' x ≡ rank x) → HomeInOrder rank l n h → HomeInOrder rank' l n h
unfolding Ordered
order_same rank rank' l n h e o j a b = omega (arith, o j a b, here j b, here (over h j) (omega (arith, over-lt h j a)))
  where
    here : (k : ℕ) → k < get_or n h 0 → rank' (get_or (region l h) k 0) ≡ rank (get_or (region l h) k 0)
    here k p = e (get_or (region l h) k 0) (count_at (region l h) (get_or n h 0) k p)

module _ (s s' : ClosedSlots) (ticket ticket' entry high low high' low' places lengths : List ℕ) (job : ℕ) (free : get_or entry job 0 ≡ 0)
    (operators : (k : ℕ) → get_or s.operator k 0 ≤ 255) (operators' : (k : ℕ) → get_or s'.operator k 0 ≤ 255)
    (counts : (j : ℕ) → (j ≡ job → ⊥) → get_or s'.alternatives j 0 ≡ get_or s.alternatives j 0)
    (same : (j i : ℕ) → (j ≡ job → ⊥) → i < 4 → alternative_at s'.atoms s'.measure s'.operator s'.key (j * 4 + i) ≡ alternative_at s.atoms s.measure s.operator s.key (j * 4 + i))
    (conditions : (j : ℕ) → (j ≡ job → ⊥) → condition_in s' j ≡ condition_in s j)
    (tickets : (j : ℕ) → (j ≡ job → ⊥) → get_or ticket' j 0 ≡ get_or ticket j 0)
    (highs : (j i : ℕ) → (j ≡ job → ⊥) → i < 4 → get_or high' (j * 4 + i) 0 ≡ get_or high (j * 4 + i) 0)
    (lows : (j i : ℕ) → (j ≡ job → ⊥) → i < 4 → get_or low' (j * 4 + i) 0 ≡ get_or low (j * 4 + i) 0) where
  other : (j : ℕ) → Waits entry j → j ≡ job → ⊥
  other j w e = omega (arith, free, ap (λ (k : ℕ). get_or entry k 0) e)

  entries-kept : Entries (condition_in s) ticket entry → Entries (condition_in s') ticket' entry
  entries-kept q j w =
      let l = get_or entry j 0 - 1 in
      let r : Led (condition_in s) ticket entry j l = q j w in
      record {
        waits = r.waits;
        same = conditions l (other l r.waits) ∙ r.same ∙ sym (conditions j (other j w));
        oldest = λ k v e. omega (arith, tickets l (other l r.waits), tickets k (other k v), r.oldest k v (sym (conditions k (other k v)) ∙ e ∙ conditions j (other j w)));
      }

  -- ---- the nodes of another job
  module _ (j i : ℕ) (d : j ≡ job → ⊥) (p : i < 4) where
    pub tag-kept : tag_in s' (j * 4 + i) ≡ tag_in s (j * 4 + i)
    tag-kept =
        tag-means s'.atoms s'.measure s'.operator s'.key operators' (j * 4 + i) ∙ ap tag (same j i d p)
        ∙ sym (tag-means s.atoms s.measure s.operator s.key operators (j * 4 + i))

    home-kept : home_in s' (j * 4 + i) ≡ home_in s (j * 4 + i)
    home-kept =
        home-means s'.atoms s'.measure s'.operator s'.key (j * 4 + i) ∙ ap home tag-kept
        ∙ sym (home-means s.atoms s.measure s.operator s.key (j * 4 + i))

  belongs-kept : (h x : ℕ) → (is_node s' entry x && eqb (home_in s' x) h) ≡ (is_node s entry x && eqb (home_in s x) h)
  belongs-kept h x = by_eq (x / 4) job
      (λ e. let no : is_lead entry (x / 4) ≡ false = ne_eqb (get_or entry (x / 4) 0) (x / 4 + 1) (λ f. other (x / 4) (omega (arith, f)) e) in rw no refl)
      (λ d.
      let a : home_in s' x ≡ home_in s x = rw (node-parts x) at (home-kept (x / 4) (x % 4) d (omega arith)) in
      λ k. (is_lead entry (x / 4) && ltb (x % 4) (min (counts (x / 4) d k) 4)) && eqb (a k) h)

  rank-kept : (x : ℕ) → x < 128 → (x / 4 ≡ job → ⊥) → rank high' low' x ≡ rank high low x
  rank-kept x b d =
      let e : x / 4 * 4 + x % 4 ≡ x % 128 = omega arith in
      let u : get_or high' (x % 128) 0 ≡ get_or high (x % 128) 0 = rw e at (highs (x / 4) (x % 4) d (omega arith)) in
      let v : get_or low' (x % 128) 0 ≡ get_or low (x % 128) 0 = rw e at (lows (x / 4) (x % 4) d (omega arith)) in
      λ k. two (u k) (v k)

  module _ (q : Index s ticket entry high low places lengths) where
    filed-rank : (h x : ℕ) → h < 34 → 0 < times_in_home places lengths h x → rank high' low' x ≡ rank high low x
    filed-rank h x p held =
        let t : is_node s entry x ≡ true = bit-some (is_node s entry x) (eqb (home_in s x) h) (omega (arith, q.filed.has h x p)) in
        let w : Waits entry (x / 4) = omega (arith, eqb-true (get_or entry (x / 4) 0) (x / 4 + 1) (both (is_lead entry (x / 4)) (ltb (x % 4) (alternatives_in s (x / 4))) t).0) in
        rank-kept x (omega (arith, waits-below entry 32 (x / 4) (omega (arith, q.size)) w)) (other (x / 4) w)

    filed-kept : Filed (rank high' low') (home_in s') (is_node s' entry) places lengths
    filed-kept = record {
      has = λ h x p. q.filed.has h x p ∙ ap bit (sym (belongs-kept h x));
      order = λ h p. order_same (rank high low) (rank high' low') places lengths h (λ x held. filed-rank h x p held) (q.filed.order h p);
      cleared = q.filed.cleared;
      long = q.filed.long;
      many = q.filed.many;
    }

  pub index-elsewhere : Index s ticket entry high low places lengths → Index s' ticket' entry high' low' places lengths
  index-elsewhere q = record {
    entries = entries-kept q.entries;
    distinct = λ j k v w e. q.distinct j k v w (sym (tickets j (other j v)) ∙ e ∙ tickets k (other k w));
    size = q.size;
    words = λ j i w p.
        let d : j ≡ job → ⊥ = other j w in
        (highs j i d p ∙ (q.words j i w p).0 ∙ ap high_word (sym (tag-kept j i d p)), lows j i d p ∙ (q.words j i w p).1 ∙ ap (λ (t : ℕ). low_word t i) (sym (tickets j d)));
    filed = filed-kept q;
  }

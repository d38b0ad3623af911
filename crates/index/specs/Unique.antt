-- There is one index of the jobs that wait, but for the place of a node in its heap: the entries are the same list, every home has the same nodes in
-- the same number of places, and a row has them in the same places.
use Rattle.std.specs.Prelude.{◌≡◌, true, ◌&&◌, List, ℕ, ◌^◌, ◌<◌, ◌≤◌, eqb, ltb, get_or}
use Rattle.std.proofs.Common.{sym, ap, ◌∙◌, arith, ext_get_or, lt-ltb, ltb-true}
use Rattle.condition.specs.Closing.{ClosedSlots}
use Rattle.condition.specs.Closes.{condition_in}
use Rattle.nodes.specs.Ranks.{rank}
use Rattle.nodes.specs.Counts.{bit}
use Rattle.homes.specs.Regions.{region}
use Rattle.homes.specs.Moves.{times_in_home}
use Rattle.entries.specs.Entries.{is_lead}
use Rattle.entries.specs.Unique as entries
use Rattle.index.specs.Filed.{home_in, is_node}
use Rattle.index.specs.Across.{across-same}
use Rattle.index.specs.Keeps.{bit-some}
use Rattle.index.specs.Leads.{leads-placed}
use Rattle.index.specs.Index.{Index}
use Rattle.index.specs.Changes.{lead-below}
use Rattle.index.specs.Apart.{nodes-apart}
use Rattle.index.specs.Rows.{rows_same}

pub record SameIndex (entry entry' places places' lengths lengths' : List ℕ) : Type 0 where
  pub entries : entry ≡ entry'
  pub counts : lengths ≡ lengths'
  pub contents : (h x : ℕ) → h < 34 → times_in_home places lengths h x ≡ times_in_home places' lengths' h x

module _ (s : ClosedSlots) (ticket high low entry entry' places places' lengths lengths' : List ℕ) (q : Index s ticket entry high low places lengths) (q' : Index s ticket entry' high low places' lengths')
    (waits : (j : ℕ) → ltb 0 (get_or entry j 0) ≡ ltb 0 (get_or entry' j 0)) where
  same_entries : entry ≡ entry'
  same_entries = entries.index-unique (condition_in s) ticket entry entry' q.distinct q.entries q'.entries
      (λ j w. ltb-true 0 (get_or entry' j 0) (sym (waits j) ∙ lt-ltb 0 (get_or entry j 0) w)) (λ j w. ltb-true 0 (get_or entry j 0) (waits j ∙ lt-ltb 0 (get_or entry' j 0) w)) (q.size ∙ sym q'.size)

  same-contents : (h x : ℕ) → h < 34 → times_in_home places lengths h x ≡ times_in_home places' lengths' h x
  same-contents h x p = q.filed.has h x p ∙ ap (λ e. bit (is_node s e x && eqb (home_in s x) h)) same_entries ∙ sym (q'.filed.has h x p)

  same_length : (h : ℕ) → h < 34 → get_or lengths h 0 ≡ get_or lengths' h 0
  same_length h p =
      sym (leads-placed (rank high low) s (is_lead entry) places lengths q.filed (lead-below entry q.size) h p)
      ∙ across-same (times_in_home places lengths h) (times_in_home places' lengths' h) 128 (λ z. same-contents h z p)
      ∙ leads-placed (rank high low) s (is_lead entry') places' lengths' q'.filed (lead-below entry' q'.size) h p

  pub index-unique : SameIndex entry entry' places places' lengths lengths'
  index-unique = record {
    entries = same_entries;
    counts = ext_get_or 0 lengths lengths' (q.filed.many ∙ sym q'.filed.many) (λ h p. same_length h (omega (arith, q.filed.many)));
    contents = same-contents;
  }

  pub rows-unique : ((j : ℕ) → get_or ticket j 0 < 2 ^ 32) → (h : ℕ) → 32 ≤ h → h < 34 → region places h ≡ region places' h
  rows-unique tickets h row p =
      rows_same (rank high low) places places' lengths lengths' q.filed.long q'.filed.long h row p (same_length h p) (q.filed.order h p) (q'.filed.order h p) (q.filed.cleared h p)
      (q'.filed.cleared h p) (λ z. same-contents h z p) (λ y z a b e. nodes-apart s ticket entry high low places lengths q tickets y z (there y a) (there z b) e)
    where
      there : (x : ℕ) → 0 < times_in_home places lengths h x → is_node s entry x ≡ true
      there x a = bit-some (is_node s entry x) (eqb (home_in s x) h) (omega (arith, q.filed.has h x p))

-- What joining and parting leave is an index again: of the jobs that waited and the new one, or of those but the one that left.
use Rattle.std.specs.Prelude.{◌≡◌, refl, true, false, List, ℕ, ◌+◌, ◌*◌, ◌<◌, eqb, ltb, get_or, length, if◌then◌else◌}
use Rattle.std.proofs.Common.{sym, ◌∙◌, arith, eq-eqb, ne_eqb, eqb-true, lt-ltb, le-ltb}
use Rattle.rules.specs.Laws.Cases.{by_eq, by_lt}
use Rattle.condition.specs.Closing.{ClosedSlots}
use Rattle.condition.specs.Closes.{condition_in}
use Rattle.ranks.specs.Words.{high_word, low_word}
use Rattle.nodes.specs.Ranks.{rank}
use Rattle.entries.specs.Entries.{Waits, is_lead, waits-below}
use Rattle.entries.specs.Joins.{joined_lead, JoinedTo}
use Rattle.entries.specs.Parts.{parted_lead, PartedFrom}
use Rattle.entries.specs.declared.Joined.{Joined}
use Rattle.entries.specs.declared.Parted.{Parted}
use Rattle.index.specs.Filed.{tag_in}
use Rattle.index.specs.Leads.{FiledOf, leads-same}
use Rattle.index.specs.Index.{Index}

-- the rank words of job j's nodes stand in their places
abbrev pub WordsOf : ClosedSlots → List ℕ → List ℕ → List ℕ → ℕ → Type 0
WordsOf s ticket high low j = (i : ℕ) → i < 4 → (get_or high (j * 4 + i) 0 ≡ high_word (tag_in s (j * 4 + i))) × (get_or low (j * 4 + i) 0 ≡ low_word (get_or ticket j 0) i)

-- there is an index of the jobs that waited and job
pub record JoinedIndex (s : ClosedSlots) (ticket high low : List ℕ) (job : ℕ) (entry entry' places' lengths' : List ℕ) : Type 0 where
  pub index : Index s ticket entry' high low places' lengths'
  pub waits : (j : ℕ) → ltb 0 (get_or entry' j 0) ≡ (if eqb j job then true else ltb 0 (get_or entry j 0))

-- and of those but job
pub record PartedIndex (s : ClosedSlots) (ticket high low : List ℕ) (job : ℕ) (entry entry' places' lengths' : List ℕ) : Type 0 where
  pub index : Index s ticket entry' high low places' lengths'
  pub waits : (j : ℕ) → ltb 0 (get_or entry' j 0) ≡ (if eqb j job then false else ltb 0 (get_or entry j 0))

-- a lead is a job
pub lead-below : (entry : List ℕ) → length entry ≡ 32 → (j : ℕ) → is_lead entry j ≡ true → j < 32
lead-below entry size j t = waits-below entry 32 j (omega arith) (omega (arith, eqb-true (get_or entry j 0) (j + 1) t))

same-wait : (m n : ℕ) → (0 < m → 0 < n) → (0 < n → 0 < m) → ltb 0 m ≡ ltb 0 n
same-wait m n f g = by_lt 0 m (λ p. lt-ltb 0 m p ∙ sym (lt-ltb 0 n (f p))) (λ p. by_lt 0 n (λ q. absurd (omega (arith, g q))) (λ q. le-ltb 0 m p ∙ sym (le-ltb 0 n q)))

module _ (s : ClosedSlots) (ticket high low entry entry' places lengths places' lengths' : List ℕ) (job : ℕ) (q : Index s ticket entry high low places lengths) where
  pub invariant-kept-by-join : (r : Joined) → ((k : ℕ) → Waits entry k → get_or ticket k 0 ≡ get_or ticket job 0 → ⊥) → WordsOf s ticket high low job → JoinedTo (condition_in s) ticket entry entry' job r →
      FiledOf (rank high low) s (joined_lead r entry job) places' lengths' → JoinedIndex s ticket high low job entry entry' places' lengths'
  invariant-kept-by-join r apart own t f = record {
    index = record {
      entries = t.entries;
      distinct = λ j k v w e. by_eq j job (λ a. by_eq k job (λ b. a ∙ sym b) (λ b. absurd (apart k (t.only k w b) (rw a at (sym e)))))
          (λ a. by_eq k job (λ b. absurd (apart j (t.only j v a) (rw b at e))) (λ b. q.distinct j k (t.only j v a) (t.only k w b) e));
      size = t.long ∙ q.size;
      words = λ j i w h. by_eq j job (λ e. rw e (own i h)) (λ d. q.words j i (t.only j w d) h);
      filed = leads-same (rank high low) s (joined_lead r entry job) places' lengths' f (is_lead entry') t.leads;
    };
    waits = λ j. by_eq j job (λ e. rw (e, eq-eqb job job refl) (lt-ltb 0 (get_or entry' job 0) t.joins)) (λ d. rw (ne_eqb j job d) (same-wait (get_or entry' j 0) (get_or entry j 0) (λ w. t.only j w d) (t.stays j)));
  }

  pub invariant-kept-by-part : (r : Parted) → PartedFrom (condition_in s) ticket entry entry' job r →
      FiledOf (rank high low) s (parted_lead r entry job) places' lengths' → PartedIndex s ticket high low job entry entry' places' lengths'
  invariant-kept-by-part r t f = record {
    index = record {
      entries = t.entries;
      distinct = λ j k v w e. q.distinct j k (t.only j v) (t.only k w) e;
      size = t.long ∙ q.size;
      words = λ j i w h. q.words j i (t.only j w) h;
      filed = leads-same (rank high low) s (parted_lead r entry job) places' lengths' f (is_lead entry') t.leads;
    };
    waits = λ j. by_eq j job (λ e. rw (e, eq-eqb job job refl) (le-ltb 0 (get_or entry' job 0) (omega (arith, t.parts)))) (λ d. rw (ne_eqb j job d) (same-wait (get_or entry' j 0) (get_or entry j 0) (t.only j) (t.stays j d)));
  }

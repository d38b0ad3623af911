-- A job joins: what each answer of `join_entry` leaves to do, and that it makes an index of what there is then.
use Rattle.std.specs.Prelude.{◌≡◌, Bool, false, List, ℕ, ◌+◌, ◌<◌, eqb, get_or, if◌then◌else◌}
use Rattle.std.proofs.Common.{sym, arith, ne_eqb}
use Rattle.condition.specs.Closing.{ClosedSlots}
use Rattle.condition.specs.Closes.{condition_in}
use Rattle.nodes.specs.Ranks.{rank}
use Rattle.entries.specs.Entries.{Waits, is_lead}
use Rattle.entries.specs.Joins.{JoinedTo}
use Rattle.entries.specs.declared.Joined.{Joined}
use Rattle.entries.specs.declared.Joined.TheVariants.{Alone, Follows, Leads}
use Rattle.index.specs.Filed.{home_in, alternatives_in}
use Rattle.index.specs.Nodes.{NodesPut, NodesCut}
use Rattle.index.specs.Leads.{FiledOf, leads-more, leads-less}
use Rattle.index.specs.Asked.{SmallMeasures, PutAsks, CutAsks, put-asks, cut-asks, fewer}
use Rattle.index.specs.Index.{Index}
use Rattle.index.specs.Changes.{WordsOf, JoinedIndex, lead-below, invariant-kept-by-join}

module _ (s : ClosedSlots) (ticket high low entry entry' l n : List ℕ) (job : ℕ) (q : Index s ticket entry high low l n) (out : get_or entry job 0 ≡ 0) {r : Joined} (t : JoinedTo (condition_in s) ticket entry entry' job r) where
  new : is_lead entry job ≡ false
  new = ne_eqb (get_or entry job 0) (job + 1) (omega arith)

  -- ---- alone, or behind another
  pub alone-asks : SmallMeasures s → job < 32 → PutAsks s l n job
  alone-asks small below = put-asks (rank high low) s (is_lead entry) l n q.filed (lead-below entry q.size) small job below new

  module _ (apart : (k : ℕ) → Waits entry k → get_or ticket k 0 ≡ get_or ticket job 0 → ⊥) (own : WordsOf s ticket high low job) where
    pub alone-index : r ≡ Alone → (m k : List ℕ) → NodesPut (rank high low) (home_in s) job (alternatives_in s job) l n m k → JoinedIndex s ticket high low job entry entry' m k
    alone-index e m k a =
        invariant-kept-by-join s ticket high low entry entry' l n m k job q Alone apart own (rw e at t) (leads-more (rank high low) s (is_lead entry) l n q.filed job new m k a)

    pub follows-index : r ≡ Follows → JoinedIndex s ticket high low job entry entry' l n
    follows-index e = invariant-kept-by-join s ticket high low entry entry' l n l n job q Follows apart own (rw e at t) q.filed

  -- ---- before the lead of an entry
  module _ (old : ℕ) (e : r ≡ Leads old) where
    after : JoinedTo (condition_in s) ticket entry entry' job (Leads old)
    after = rw e at t

    abbrev left : ℕ → Bool
    left j = if eqb j old then false else is_lead entry j

    left_out : left job ≡ false
    left_out = rw (ne_eqb job old (λ d. after.says.2 (sym d))) new

    pub old-asks : SmallMeasures s → CutAsks s l n old
    old-asks small = cut-asks (rank high low) s (is_lead entry) l n q.filed (lead-below entry q.size) small old after.says.1

    module _ (m k : List ℕ) (a : NodesCut (rank high low) (home_in s) old (alternatives_in s old) l n m k) where
      filed-left : FiledOf (rank high low) s left m k
      filed-left = leads-less (rank high low) s (is_lead entry) l n q.filed old after.says.1 m k a

      pub new-asks : SmallMeasures s → job < 32 → PutAsks s m k job
      new-asks small below = put-asks (rank high low) s left m k filed-left (fewer (is_lead entry) old (lead-below entry q.size)) small job below left_out

      pub leads-index : ((k : ℕ) → Waits entry k → get_or ticket k 0 ≡ get_or ticket job 0 → ⊥) → WordsOf s ticket high low job →
          (m' k' : List ℕ) → NodesPut (rank high low) (home_in s) job (alternatives_in s job) m k m' k' → JoinedIndex s ticket high low job entry entry' m' k'
      leads-index apart own m' k' b =
          invariant-kept-by-join s ticket high low entry entry' l n m' k' job q (Leads old) apart own after (leads-more (rank high low) s left m k filed-left job left_out m' k' b)

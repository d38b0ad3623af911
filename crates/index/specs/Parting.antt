-- A job parts: what each answer of `part_entry` leaves to do, and that it makes an index of what there is then.
use Rattle.std.specs.Prelude.{◌≡◌, refl, Bool, true, false, List, ℕ, eqb, if◌then◌else◌}
use Rattle.std.proofs.Common.{sym, ◌∙◌, eq-eqb, ne_eqb}
use Rattle.rules.specs.Laws.Cases.{by_eq}
use Rattle.condition.specs.Closing.{ClosedSlots}
use Rattle.condition.specs.Closes.{condition_in}
use Rattle.nodes.specs.Ranks.{rank}
use Rattle.entries.specs.Entries.{is_lead}
use Rattle.entries.specs.Parts.{parted_lead, PartedFrom}
use Rattle.entries.specs.declared.Parted.{Parted}
use Rattle.entries.specs.declared.Parted.TheVariants.{Follower, Ends, Next}
use Rattle.index.specs.Filed.{home_in, alternatives_in}
use Rattle.index.specs.Nodes.{NodesPut, NodesCut}
use Rattle.index.specs.Leads.{FiledOf, leads-same, leads-more, leads-less}
use Rattle.index.specs.Asked.{SmallMeasures, PutAsks, CutAsks, put-asks, cut-asks, fewer}
use Rattle.index.specs.Index.{Index}
use Rattle.index.specs.Changes.{PartedIndex, lead-below, invariant-kept-by-part}

module _ (s : ClosedSlots) (ticket high low entry entry' l n : List ℕ) (job : ℕ) (q : Index s ticket entry high low l n) {r : Parted} (t : PartedFrom (condition_in s) ticket entry entry' job r) where
  -- ---- from behind another, or as the last of its entry
  pub follower-index : r ≡ Follower → PartedIndex s ticket high low job entry entry' l n
  follower-index e = invariant-kept-by-part s ticket high low entry entry' l n l n job q Follower (rw e at t) q.filed

  job-asks : is_lead entry job ≡ true → SmallMeasures s → CutAsks s l n job
  job-asks leads small = cut-asks (rank high low) s (is_lead entry) l n q.filed (lead-below entry q.size) small job leads

  pub ends-asks : r ≡ Ends → SmallMeasures s → CutAsks s l n job
  ends-asks e = let after : PartedFrom (condition_in s) ticket entry entry' job Ends = rw e at t in job-asks after.says.0

  pub ends-index : r ≡ Ends → (m k : List ℕ) → NodesCut (rank high low) (home_in s) job (alternatives_in s job) l n m k → PartedIndex s ticket high low job entry entry' m k
  ends-index e m k a =
      let after : PartedFrom (condition_in s) ticket entry entry' job Ends = rw e at t in
      invariant-kept-by-part s ticket high low entry entry' l n m k job q Ends after (leads-less (rank high low) s (is_lead entry) l n q.filed job after.says.0 m k a)

  -- ---- with others behind it
  module _ (next : ℕ) (e : r ≡ Next next) where
    after : PartedFrom (condition_in s) ticket entry entry' job (Next next)
    after = rw e at t

    abbrev left : ℕ → Bool
    left j = if eqb j job then false else is_lead entry j

    left_out : left next ≡ false
    left_out = rw (ne_eqb next job after.says.2) after.says.5

    pub lead-asks : SmallMeasures s → CutAsks s l n job
    lead-asks = job-asks after.says.0

    module _ (m k : List ℕ) (a : NodesCut (rank high low) (home_in s) job (alternatives_in s job) l n m k) where
      filed-left : FiledOf (rank high low) s left m k
      filed-left = leads-less (rank high low) s (is_lead entry) l n q.filed job after.says.0 m k a

      pub next-asks : SmallMeasures s → PutAsks s m k next
      next-asks small = put-asks (rank high low) s left m k filed-left (fewer (is_lead entry) job (lead-below entry q.size)) small next after.says.1 left_out

      pub next-index : (m' k' : List ℕ) → NodesPut (rank high low) (home_in s) next (alternatives_in s next) m k m' k' → PartedIndex s ticket high low job entry entry' m' k'
      next-index m' k' b = invariant-kept-by-part s ticket high low entry entry' l n m' k' job q (Next next) after
          (leads-same (rank high low) s (λ j. if eqb j next then true else left j) m' k' (leads-more (rank high low) s left m k filed-left next left_out m' k' b) (parted_lead (Next next) entry job) same)
        where
          same : (j : ℕ) → parted_lead (Next next) entry job j ≡ (if eqb j next then true else left j)
          same j = by_eq j job (λ d. rw (eq-eqb j job d, ne_eqb j next (λ c. after.says.2 (sym c ∙ d))) refl) (λ d. rw (ne_eqb j job d) refl)

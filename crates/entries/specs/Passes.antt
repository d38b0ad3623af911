-- A lead leaves others behind, and the oldest of them leads them: they have its condition, and nobody else has.
use Rattle.std.specs.Prelude.{◌≡◌, refl, Option, Some, None, List, ℕ, ◌+◌, ◌-◌, ◌<◌, ◌≤◌, eqb, get_or, set, length}
use Rattle.std.proofs.Common.{sym, ap, ◌∙◌, arith, get_or-set_same, get_or-set_other, eq-eqb, ne_eqb}
use Rattle.rules.specs.Condition.{Condition}
use Rattle.rules.specs.Laws.Cases.{by_eq}
use Rattle.entries.specs.Entries.{Waits, is_lead, Entries, Distinct, led-named, waits-below, one-condition, one_entry}
use Rattle.entries.specs.Renames.{renamed, renamed-same, renamed-other}
use Rattle.entries.specs.Changes.{Change}
use Rattle.entries.specs.Oldest.{oldest_of, Oldest, OldestAt, oldest-is}
use Rattle.entries.specs.Parts.{parted_lead, PartedFrom, not-job, out-lead}
use Rattle.entries.specs.declared.Parted.TheVariants.{Next}

-- ---- who is found when the job's own entry is 0
module _ {of : ℕ} {found : Option ℕ} (entry ticket : List ℕ) (job : ℕ) (e : of ≡ job + 1)
    (r : found ≡ oldest_of (set entry job 0) ticket of 32) (h : job < length entry) where
  left : Oldest (set entry job 0) ticket of 32 found
  left = rw r (oldest-is (set entry job 0) ticket of 32)

  stands : (j : ℕ) → (j ≡ job → ⊥) → get_or entry j 0 ≡ job + 1 → get_or (set entry job 0) j 0 ≡ of
  stands j n i = get_or-set_other entry job j 0 0 n ∙ i ∙ sym e

  module _ {next : ℕ} (is : found ≡ Some next) where
    one : OldestAt (set entry job 0) ticket of 32 next
    one = rw is at left

    pub next-below : next < 32
    next-below = one.below

    pub next-other : next ≡ job → ⊥
    next-other d = absurd (omega (arith, one.here, get_or-set_same entry job 0 0 h, ap (λ (x : ℕ). get_or (set entry job 0) x 0) d))

    pub next-behind : get_or entry next 0 ≡ job + 1
    next-behind = sym (get_or-set_other entry job next 0 0 next-other) ∙ one.here ∙ e

    pub next-least : length entry ≤ 32 → (j : ℕ) → (j ≡ job → ⊥) → get_or entry j 0 ≡ job + 1 → get_or ticket next 0 ≤ get_or ticket j 0
    next-least short j n i = one.least j (waits-below entry 32 j short (omega (arith, i))) (stands j n i)

  pub next-none : found ≡ None → length entry ≤ 32 → (j : ℕ) → (j ≡ job → ⊥) → get_or entry j 0 ≡ job + 1 → ⊥
  next-none is short j n i =
      let nobody : (j : ℕ) → j < 32 → get_or (set entry job 0) j 0 ≡ of → ⊥ = rw is at left in
      nobody j (waits-below entry 32 j short (omega (arith, i))) (stands j n i)

-- ---- k is the oldest of those left in the job's entry
module _ (condition : ℕ → Condition) (ticket entry entry' : List ℕ) (job : ℕ) (q : Entries condition ticket entry) (d : Distinct ticket entry) where
  module _ (k : ℕ) (s : Change entry entry' job 0 (renamed (job + 1) (k + 1))) (lead : get_or entry job 0 ≡ job + 1) (other : k ≡ job → ⊥) (behind : get_or entry k 0 ≡ job + 1)
      (least : (j : ℕ) → (j ≡ job → ⊥) → get_or entry j 0 ≡ job + 1 → get_or ticket k 0 ≤ get_or ticket j 0) where
    passed-same : (j : ℕ) → (j ≡ job → ⊥) → get_or entry j 0 ≡ job + 1 → get_or entry' j 0 ≡ k + 1
    passed-same j n e = s.others j n ∙ sym (renamed-same (job + 1) (k + 1) (get_or entry j 0) e)

    passed-other : (j : ℕ) → (j ≡ job → ⊥) → (get_or entry j 0 ≡ job + 1 → ⊥) → get_or entry' j 0 ≡ get_or entry j 0
    passed-other j n o = s.others j n ∙ sym (renamed-other (job + 1) (k + 1) (get_or entry j 0) o)

    passed-stays : (j : ℕ) → (j ≡ job → ⊥) → Waits entry j → Waits entry' j
    passed-stays j n w = by_eq (get_or entry j 0) (job + 1) (λ e. omega (arith, passed-same j n e)) (λ o. omega (arith, passed-other j n o))

    passed-only : (j : ℕ) → Waits entry' j → Waits entry j
    passed-only j w = by_eq (get_or entry j 0) (job + 1) (λ e. omega arith) (λ o. omega (arith, passed-other j (not-job entry' job s.here j w) o))

    passed-entries : Entries condition ticket entry'
    passed-entries j w =
        let n = not-job entry' job s.here j w in
        let v = passed-only j w in
        let l = get_or entry j 0 - 1 in
        by_eq (get_or entry j 0) (job + 1)
        (λ e.
        led-named condition ticket entry' j k (passed-same j n e) (record {
          waits = omega (arith, passed-same k other behind);
          same = one-condition condition ticket entry q j k v (behind ∙ sym e);
          oldest = λ m u c. least m (not-job entry' job s.here m u) (one_entry condition ticket entry q d j v m (passed-only m u) c ∙ e);
        }))
        (λ o.
        led-named condition ticket entry' j l (omega (arith, passed-other j n o)) (record {
          waits = passed-stays l (λ e. o (omega (arith, e))) (q j v).waits;
          same = (q j v).same;
          oldest = λ m u c. (q j v).oldest m (passed-only m u) c;
        }))

    passed-leads : (j : ℕ) → is_lead entry' j ≡ parted_lead (Next k) entry job j
    passed-leads j =
        by_eq j job (λ e. rw e (rw (eq-eqb job job refl) (out-lead entry' job s.here)))
        (λ n.
        by_eq j k (λ e. rw (ne_eqb j job n, eq-eqb j k e) (eq-eqb (get_or entry' j 0) (j + 1) (omega (arith, passed-same j n (ap (λ (x : ℕ). get_or entry x 0) e ∙ behind)))))
        (λ o.
        by_eq (get_or entry j 0) (job + 1)
        (λ e. rw (ne_eqb j job n, ne_eqb j k o) (ne_eqb (get_or entry' j 0) (j + 1) (λ i. o (omega (arith, passed-same j n e))) ∙ sym (ne_eqb (get_or entry j 0) (j + 1) (λ i. n (omega arith)))))
        (λ x. rw (ne_eqb j job n, ne_eqb j k o) (ap (λ (y : ℕ). eqb y (j + 1)) (passed-other j n x)))))

    pub parts_next : k < 32 → PartedFrom condition ticket entry entry' job (Next k)
    parts_next h = record {
      entries = passed-entries;
      parts = s.here;
      stays = passed-stays;
      only = passed-only;
      leads = passed-leads;
      says = (
        eq-eqb (get_or entry job 0) (job + 1) lead,
        h,
        other,
        omega (arith, behind),
        one-condition condition ticket entry q job k (omega (arith, lead)) (behind ∙ sym lead),
        ne_eqb (get_or entry k 0) (k + 1) (λ e. other (omega (arith, behind))),
        λ j n w c. least j n (one_entry condition ticket entry q d job (omega (arith, lead)) j w c ∙ lead),
      );
      long = s.long;
    }

-- A job leaves the index: behind its lead, as the last of its entry, or as a lead whom the next oldest follows. Unless it leaves others behind that
-- it led, every lead is as before.
use Rattle.std.specs.Prelude.{◌≡◌, refl, Bool, true, false, List, ℕ, ◌+◌, ◌-◌, ◌<◌, ◌≤◌, eqb, get_or, length, if◌then◌else◌}
use Rattle.std.proofs.Common.{sym, ap, ◌∙◌, arith, eq-eqb, ne_eqb}
use Rattle.rules.specs.Condition.{Condition}
use Rattle.rules.specs.Laws.Cases.{by_eq}
use Rattle.entries.specs.Entries.{Waits, is_lead, Entries, Distinct, led-named, one_entry, lead-leads}
use Rattle.entries.specs.Changes.{Change}
use Rattle.entries.specs.declared.Parted.{Parted}
use Rattle.entries.specs.declared.Parted.TheVariants.{Follower, Ends, Next}

-- who leads then
abbrev pub parted_lead : Parted → List ℕ → ℕ → ℕ → Bool
parted_lead Follower entry job j = is_lead entry j
parted_lead Ends entry job j = if eqb j job then false else is_lead entry j
parted_lead (Next k) entry job j = if eqb j job then false else if eqb j k then true else is_lead entry j

-- what the answer tells of those who waited
abbrev pub PartedSays : (ℕ → Condition) → List ℕ → List ℕ → ℕ → Parted → Type 0
PartedSays condition ticket entry job Follower = is_lead entry job ≡ false
PartedSays condition ticket entry job Ends = (is_lead entry job ≡ true) × ((j : ℕ) → (j ≡ job → ⊥) → Waits entry j → condition j ≡ condition job → ⊥)
PartedSays condition ticket entry job (Next k) =
    (is_lead entry job ≡ true) × (k < 32) × (k ≡ job → ⊥) × Waits entry k × (condition k ≡ condition job) × (is_lead entry k ≡ false)
    × ((j : ℕ) → (j ≡ job → ⊥) → Waits entry j → condition j ≡ condition job → get_or ticket k 0 ≤ get_or ticket j 0)

pub record PartedFrom (condition : ℕ → Condition) (ticket entry entry' : List ℕ) (job : ℕ) (r : Parted) : Type 0 where
  pub entries : Entries condition ticket entry'
  -- the job does not wait, whoever else waited does, and nobody else
  pub parts : get_or entry' job 0 ≡ 0
  pub stays : (j : ℕ) → (j ≡ job → ⊥) → Waits entry j → Waits entry' j
  pub only : (j : ℕ) → Waits entry' j → Waits entry j
  pub leads : (j : ℕ) → is_lead entry' j ≡ parted_lead r entry job j
  pub says : PartedSays condition ticket entry job r
  pub long : length entry' ≡ length entry

-- the job, once it does not wait
module _ (entry' : List ℕ) (job : ℕ) (z : get_or entry' job 0 ≡ 0) where
  pub not-job : (j : ℕ) → Waits entry' j → j ≡ job → ⊥
  not-job j w e = absurd (omega (arith, z, ap (λ (x : ℕ). get_or entry' x 0) e))

  pub out-lead : is_lead entry' job ≡ false
  out-lead = ne_eqb (get_or entry' job 0) (job + 1) (omega (arith, z))

module _ (condition : ℕ → Condition) (ticket entry entry' : List ℕ) (job : ℕ) (q : Entries condition ticket entry) (d : Distinct ticket entry) where
  -- ---- nobody else is in an entry that the job leads
  module _ (s : Change entry entry' job 0 (λ x. x)) (free : (j : ℕ) → (j ≡ job → ⊥) → Waits entry j → get_or entry j 0 ≡ job + 1 → ⊥) where
    gone-stays : (j : ℕ) → (j ≡ job → ⊥) → Waits entry j → Waits entry' j
    gone-stays j n w = omega (arith, s.others j n)

    gone-only : (j : ℕ) → Waits entry' j → Waits entry j
    gone-only j w = omega (arith, s.others j (not-job entry' job s.here j w))

    gone-entries : Entries condition ticket entry'
    gone-entries j w =
        let n = not-job entry' job s.here j w in
        let v = gone-only j w in
        let l = get_or entry j 0 - 1 in
        led-named condition ticket entry' j l (omega (arith, s.others j n)) (record {
          waits = gone-stays l (λ e. free j n v (omega (arith, e))) (q j v).waits;
          same = (q j v).same;
          oldest = λ k u c. (q j v).oldest k (gone-only k u) c;
        })

    gone-lead : (j : ℕ) → (j ≡ job → ⊥) → is_lead entry' j ≡ is_lead entry j
    gone-lead j n = ap (λ (x : ℕ). eqb x (j + 1)) (s.others j n)

  module _ (s : Change entry entry' job 0 (λ x. x)) where
    -- a lead leads itself, so nobody has a follower for lead
    pub parts-follower : (get_or entry job 0 ≡ job + 1 → ⊥) → PartedFrom condition ticket entry entry' job Follower
    parts-follower not = record {
      entries = gone-entries s free;
      parts = s.here;
      stays = gone-stays s free;
      only = gone-only s free;
      leads = λ j. by_eq j job (λ e. rw e (out-lead entry' job s.here ∙ sym no)) (gone-lead s free j);
      says = no;
      long = s.long;
    }
      where
        free : (j : ℕ) → (j ≡ job → ⊥) → Waits entry j → get_or entry j 0 ≡ job + 1 → ⊥
        free j n w e = not (sym (ap (λ (x : ℕ). get_or entry x 0) (lead e)) ∙ lead-leads condition ticket entry q d j w ∙ e)
          where
            lead : get_or entry j 0 ≡ job + 1 → get_or entry j 0 - 1 ≡ job
            lead e = omega (arith, e)

        no : is_lead entry job ≡ false
        no = ne_eqb (get_or entry job 0) (job + 1) not

    pub parts_last : get_or entry job 0 ≡ job + 1 → ((j : ℕ) → (j ≡ job → ⊥) → get_or entry j 0 ≡ job + 1 → ⊥) → PartedFrom condition ticket entry entry' job Ends
    parts_last lead nobody = record {
      entries = gone-entries s free;
      parts = s.here;
      stays = gone-stays s free;
      only = gone-only s free;
      leads = λ j. by_eq j job (λ e. rw e (rw (eq-eqb job job refl) (out-lead entry' job s.here))) (λ n. rw (ne_eqb j job n) (gone-lead s free j n));
      says = (eq-eqb (get_or entry job 0) (job + 1) lead, λ k n w c. nobody k n (one_entry condition ticket entry q d job (omega (arith, lead)) k w c ∙ lead));
      long = s.long;
    }
      where
        free : (j : ℕ) → (j ≡ job → ⊥) → Waits entry j → get_or entry j 0 ≡ job + 1 → ⊥
        free j n w e = nobody j n e

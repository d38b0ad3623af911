-- A job joins an entry that has a lead. If the lead is older, it leads the job too; if it is younger, the job leads all of the entry, and is older
-- than whoever is in it.
use Rattle.std.specs.Prelude.{◌≡◌, refl, List, ℕ, ◌+◌, ◌-◌, ◌<◌, ◌≤◌, eqb, get_or}
use Rattle.std.proofs.Common.{sym, ap, ◌∙◌, arith, eq-eqb, ne_eqb}
use Rattle.rules.specs.Condition.{Condition}
use Rattle.rules.specs.Laws.Cases.{by_eq}
use Rattle.entries.specs.Entries.{Waits, is_lead, Led, Entries, Distinct, one-condition, one_entry}
use Rattle.entries.specs.Renames.{renamed, renamed-same, renamed-other}
use Rattle.entries.specs.Changes.{Change, stay, new}
use Rattle.entries.specs.Joins.{joined_lead, JoinedTo, led-joined}
use Rattle.entries.specs.declared.Joined.TheVariants.{Follows, Leads}

module _ (condition : ℕ → Condition) (ticket entry entry' : List ℕ) (job : ℕ) (out : get_or entry job 0 ≡ 0) (q : Entries condition ticket entry) where
  -- l leads the entry with the job's condition
  module _ (l : ℕ) (lead : get_or entry l 0 ≡ l + 1) (same : condition l ≡ condition job) where
    lead-waits : Waits entry l
    lead-waits = omega (arith, lead)

    not-job : l ≡ job → ⊥
    not-job e = absurd (omega (arith, lead, out, ap (λ (x : ℕ). get_or entry x 0) e))

    itself : get_or entry l 0 - 1 ≡ l
    itself = omega (arith, lead)

    least : (k : ℕ) → Waits entry k → condition k ≡ condition job → get_or ticket l 0 ≤ get_or ticket k 0
    least k v c = omega (arith, (q l lead-waits).oldest k v (c ∙ sym same), ap (λ (x : ℕ). get_or ticket x 0) itself)

    -- and is older
    module _ (s : Change entry entry' job (l + 1) (λ x. x)) (older : get_or ticket l 0 < get_or ticket job 0) where
      behind-stays : (j : ℕ) → Waits entry j → Waits entry' j
      behind-stays = stay entry entry' job (l + 1) (λ x. x) s out (λ x h. h)

      behind-only : (j : ℕ) → Waits entry' j → (j ≡ job → ⊥) → Waits entry j
      behind-only = new entry entry' job (l + 1) (λ x. x) s (λ x h. h)

      behind-entries : Entries condition ticket entry'
      behind-entries j w =
          by_eq j job
          (λ e. rw e (led-joined condition ticket entry entry' job behind-only job l s.here (behind-stays l lead-waits) same least (λ c. omega arith)))
          (λ n.
          let v = behind-only j w n in
          let m = get_or entry j 0 - 1 in
          led-joined condition ticket entry entry' job behind-only j m (omega (arith, s.others j n)) (behind-stays m (q j v).waits) (q j v).same (q j v).oldest
          (λ c. omega (arith, (q j v).oldest l lead-waits (same ∙ c))))

      behind-leads : (j : ℕ) → is_lead entry' j ≡ joined_lead Follows entry job j
      behind-leads j =
          by_eq j job (λ e. rw e (ne_eqb (get_or entry' job 0) (job + 1) (λ i. not-job (omega (arith, s.here))) ∙ sym (ne_eqb (get_or entry job 0) (job + 1) (omega (arith, out)))))
          (λ n. ap (λ (x : ℕ). eqb x (j + 1)) (s.others j n))

      pub joins-behind : JoinedTo condition ticket entry entry' job Follows
      joins-behind = record {
        entries = behind-entries;
        joins = omega (arith, s.here);
        stays = behind-stays;
        only = behind-only;
        leads = behind-leads;
        says = (l, eq-eqb (get_or entry l 0) (l + 1) lead, same, older);
        long = s.long;
      }

    -- and is younger
    module _ (d : Distinct ticket entry) (s : Change entry entry' job (job + 1) (renamed (l + 1) (job + 1))) (younger : get_or ticket job 0 < get_or ticket l 0) where
      first-stays : (j : ℕ) → Waits entry j → Waits entry' j
      first-stays = stay entry entry' job (job + 1) (renamed (l + 1) (job + 1)) s out (λ x h. by_eq x (l + 1) (λ e. omega (arith, renamed-same (l + 1) (job + 1) x e)) (λ n. omega (arith, renamed-other (l + 1) (job + 1) x n)))

      first-only : (j : ℕ) → Waits entry' j → (j ≡ job → ⊥) → Waits entry j
      first-only = new entry entry' job (job + 1) (renamed (l + 1) (job + 1)) s (λ x h. by_eq x (l + 1) (λ e. omega arith) (λ n. omega (arith, renamed-other (l + 1) (job + 1) x n)))

      first-joins : Waits entry' job
      first-joins = omega (arith, s.here)

      -- those of the lead's entry, and the others
      first-same : (j : ℕ) → (j ≡ job → ⊥) → get_or entry j 0 ≡ l + 1 → get_or entry' j 0 ≡ job + 1
      first-same j n e = s.others j n ∙ sym (renamed-same (l + 1) (job + 1) (get_or entry j 0) e)

      first-other : (j : ℕ) → (j ≡ job → ⊥) → (get_or entry j 0 ≡ l + 1 → ⊥) → get_or entry' j 0 ≡ get_or entry j 0
      first-other j n o = s.others j n ∙ sym (renamed-other (l + 1) (job + 1) (get_or entry j 0) o)

      first-led : (j : ℕ) → condition job ≡ condition j → get_or entry' j 0 ≡ job + 1 → Led condition ticket entry' j (get_or entry' j 0 - 1)
      first-led j c n = led-joined condition ticket entry entry' job first-only j job n first-joins c (λ k v i. omega (arith, least k v (i ∙ sym c))) (λ i. omega arith)

      first-entries : Entries condition ticket entry'
      first-entries j w =
          by_eq j job (λ e. rw e (first-led job refl s.here))
          (λ n.
          let v = first-only j w n in
          let m = get_or entry j 0 - 1 in
          by_eq (get_or entry j 0) (l + 1) (λ e. first-led j (sym same ∙ sym (one-condition condition ticket entry q l j lead-waits (e ∙ sym lead))) (first-same j n e))
          (λ o.
          led-joined condition ticket entry entry' job first-only j m (omega (arith, first-other j n o)) (first-stays m (q j v).waits) (q j v).same (q j v).oldest
          (λ c. absurd (o (one_entry condition ticket entry q d l lead-waits j v (sym c ∙ sym same) ∙ lead)))))

      first-leads : (j : ℕ) → is_lead entry' j ≡ joined_lead (Leads l) entry job j
      first-leads j =
          by_eq j job (λ e. rw e (rw (eq-eqb job job refl) (eq-eqb (get_or entry' job 0) (job + 1) s.here)))
          (λ n.
          by_eq j l
          (λ e. rw (ne_eqb j job n, eq-eqb j l e) (ne_eqb (get_or entry' j 0) (j + 1) (λ i. n (omega (arith, first-same j n (ap (λ (x : ℕ). get_or entry x 0) e ∙ lead))))))
          (λ o.
          by_eq (get_or entry j 0) (l + 1)
          (λ e. rw (ne_eqb j job n, ne_eqb j l o) (ne_eqb (get_or entry' j 0) (j + 1) (λ i. n (omega (arith, first-same j n e))) ∙ sym (ne_eqb (get_or entry j 0) (j + 1) (λ i. o (omega arith)))))
          (λ x. rw (ne_eqb j job n, ne_eqb j l o) (ap (λ (x : ℕ). eqb x (j + 1)) (first-other j n x)))))

      pub joins-first : l < 32 → JoinedTo condition ticket entry entry' job (Leads l)
      joins-first h = record {
        entries = first-entries;
        joins = first-joins;
        stays = first-stays;
        only = first-only;
        leads = first-leads;
        says = (h, eq-eqb (get_or entry l 0) (l + 1) lead, not-job, same, younger);
        long = s.long;
      }

-- a lead that is not older than the job is younger, for their tickets differ
pub older-then : (ticket entry : List ℕ) (job l : ℕ) → get_or entry l 0 ≡ l + 1 → ((k : ℕ) → Waits entry k → get_or ticket k 0 ≡ get_or ticket job 0 → ⊥) →
    get_or ticket job 0 ≤ get_or ticket l 0 → get_or ticket job 0 < get_or ticket l 0
older-then ticket entry job l lead apart h = by_eq (get_or ticket l 0) (get_or ticket job 0) (λ e. absurd (apart l (omega (arith, lead)) e)) (λ n. omega arith)

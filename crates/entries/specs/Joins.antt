-- A job joins the index: alone, behind a lead that is older, or as the new lead of an entry. If nobody waits with its condition, every lead is as
-- before, and the job is its own.
use Rattle.std.specs.Prelude.{◌≡◌, refl, Bool, true, false, List, ℕ, ◌+◌, ◌-◌, ◌<◌, ◌≤◌, eqb, get_or, length, if◌then◌else◌}
use Rattle.std.proofs.Common.{sym, ap, ◌∙◌, arith, eq-eqb, ne_eqb}
use Rattle.rules.specs.Condition.{Condition}
use Rattle.rules.specs.Laws.Cases.{by_eq}
use Rattle.entries.specs.Entries.{Waits, is_lead, Led, Entries, led-named}
use Rattle.entries.specs.Changes.{Change, stay, new}
use Rattle.entries.specs.declared.Joined.{Joined}
use Rattle.entries.specs.declared.Joined.TheVariants.{Alone, Follows, Leads}

-- who leads then
abbrev pub joined_lead : Joined → List ℕ → ℕ → ℕ → Bool
joined_lead Alone entry job j = if eqb j job then true else is_lead entry j
joined_lead Follows entry job j = is_lead entry j
joined_lead (Leads old) entry job j = if eqb j job then true else if eqb j old then false else is_lead entry j

-- what the answer tells of those who waited
abbrev pub JoinedSays : (ℕ → Condition) → List ℕ → List ℕ → ℕ → Joined → Type 0
JoinedSays condition ticket entry job Alone = (k : ℕ) → Waits entry k → condition k ≡ condition job → ⊥
JoinedSays condition ticket entry job Follows = (l : ℕ) × (is_lead entry l ≡ true) × (condition l ≡ condition job) × (get_or ticket l 0 < get_or ticket job 0)
JoinedSays condition ticket entry job (Leads old) = (old < 32) × (is_lead entry old ≡ true) × (old ≡ job → ⊥) × (condition old ≡ condition job) × (get_or ticket job 0 < get_or ticket old 0)

pub record JoinedTo (condition : ℕ → Condition) (ticket entry entry' : List ℕ) (job : ℕ) (r : Joined) : Type 0 where
  pub entries : Entries condition ticket entry'
  -- the job waits, whoever waited does, and nobody else
  pub joins : Waits entry' job
  pub stays : (j : ℕ) → Waits entry j → Waits entry' j
  pub only : (j : ℕ) → Waits entry' j → (j ≡ job → ⊥) → Waits entry j
  pub leads : (j : ℕ) → is_lead entry' j ≡ joined_lead r entry job j
  pub says : JoinedSays condition ticket entry job r
  pub long : length entry' ≡ length entry

module _ (condition : ℕ → Condition) (ticket entry entry' : List ℕ) (job : ℕ) where
  -- a lead is known by those who waited and by the job
  pub led-joined : ((k : ℕ) → Waits entry' k → (k ≡ job → ⊥) → Waits entry k) → (j l : ℕ) → get_or entry' j 0 ≡ l + 1 → Waits entry' l → condition l ≡ condition j →
      ((k : ℕ) → Waits entry k → condition k ≡ condition j → get_or ticket l 0 ≤ get_or ticket k 0) → (condition job ≡ condition j → get_or ticket l 0 ≤ get_or ticket job 0) →
      Led condition ticket entry' j (get_or entry' j 0 - 1)
  led-joined only j l n w e f g = led-named condition ticket entry' j l n (record { waits = w; same = e; oldest = oldest })
    where
      oldest : (k : ℕ) → Waits entry' k → condition k ≡ condition j → get_or ticket l 0 ≤ get_or ticket k 0
      oldest k v s = by_eq k job (λ i. rw i (g (sym (ap condition i) ∙ s))) (λ i. f k (only k v i) s)

  -- ---- nobody waits with the job's condition
  module _ (out : get_or entry job 0 ≡ 0) (q : Entries condition ticket entry) (s : Change entry entry' job (job + 1) (λ x. x)) (nobody : (k : ℕ) → Waits entry k → condition k ≡ condition job → ⊥) where
    alone-stays : (j : ℕ) → Waits entry j → Waits entry' j
    alone-stays = stay entry entry' job (job + 1) (λ x. x) s out (λ x h. h)

    alone-only : (j : ℕ) → Waits entry' j → (j ≡ job → ⊥) → Waits entry j
    alone-only = new entry entry' job (job + 1) (λ x. x) s (λ x h. h)

    alone-joins : Waits entry' job
    alone-joins = omega (arith, s.here)

    alone-entries : Entries condition ticket entry'
    alone-entries j w =
        by_eq j job
        (λ e. rw e (led-joined alone-only job job s.here alone-joins refl (λ k v c. absurd (nobody k v c)) (λ c. omega arith)))
        (λ n.
        let v = alone-only j w n in
        let l = get_or entry j 0 - 1 in
        led-joined alone-only j l (omega (arith, s.others j n)) (alone-stays l (q j v).waits) (q j v).same (q j v).oldest (λ c. absurd (nobody j v (sym c))))

    alone-leads : (j : ℕ) → is_lead entry' j ≡ joined_lead Alone entry job j
    alone-leads j =
        by_eq j job (λ e. rw e (rw (eq-eqb job job refl) (eq-eqb (get_or entry' job 0) (job + 1) s.here)))
        (λ n. rw (ne_eqb j job n) (ap (λ (x : ℕ). eqb x (j + 1)) (s.others j n)))

    pub joins-alone : JoinedTo condition ticket entry entry' job Alone
    joins-alone = record { entries = alone-entries; joins = alone-joins; stays = alone-stays; only = alone-only; leads = alone-leads; says = nobody; long = s.long }

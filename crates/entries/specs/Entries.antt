-- Waiting jobs with identical conditions share an entry, and its lead is the oldest of them. Tickets of waiting jobs differ, so there is one oldest:
-- jobs with one condition have one lead, and it leads itself.
use Rattle.std.specs.Prelude.{◌≡◌, Bool, true, List, ℕ, ◌+◌, ◌-◌, ◌<◌, ◌≤◌, eqb, get_or, length}
use Rattle.std.proofs.Common.{sym, ap, ◌∙◌, arith, eq-eqb}
use Rattle.std.proofs.Math.ListN.{get_or-eq_default}
use Rattle.rules.specs.Condition.{Condition}
use Rattle.rules.specs.Laws.Cases.{by_lt}

-- job j is in the index
abbrev pub Waits : List ℕ → ℕ → Type 0
Waits entry j = 0 < get_or entry j 0

-- job j leads its entry
abbrev pub is_lead : List ℕ → ℕ → Bool
is_lead entry j = eqb (get_or entry j 0) (j + 1)

-- l is the oldest waiting job with j's condition
pub record Led (condition : ℕ → Condition) (ticket entry : List ℕ) (j l : ℕ) : Type 0 where
  pub waits : Waits entry l
  pub same : condition l ≡ condition j
  pub oldest : (k : ℕ) → Waits entry k → condition k ≡ condition j → get_or ticket l 0 ≤ get_or ticket k 0

-- every waiting job's entry names its lead
abbrev pub Entries : (ℕ → Condition) → List ℕ → List ℕ → Type 0
Entries condition ticket entry = (j : ℕ) → Waits entry j → Led condition ticket entry j (get_or entry j 0 - 1)

-- waiting jobs have different tickets
abbrev pub Distinct : List ℕ → List ℕ → Type 0
Distinct ticket entry = (j k : ℕ) → Waits entry j → Waits entry k → get_or ticket j 0 ≡ get_or ticket k 0 → j ≡ k

-- there is no job past the end
pub waits-below : (entry : List ℕ) (n j : ℕ) → length entry ≤ n → Waits entry j → j < n
waits-below entry n j h w = by_lt j n (λ p. p) (λ p. absurd (omega (arith, get_or-eq_default entry 0 (past p))))
  where
    past : n ≤ j → length entry ≤ j
    past p = omega arith

-- the lead that an entry names
pub led-named : (condition : ℕ → Condition) (ticket entry : List ℕ) (j l : ℕ) → get_or entry j 0 ≡ l + 1 → Led condition ticket entry j l → Led condition ticket entry j (get_or entry j 0 - 1)
led-named condition ticket entry j l e h = rw same h
  where
    same : get_or entry j 0 - 1 ≡ l
    same = omega (arith, e)

module _ (condition : ℕ → Condition) (ticket entry : List ℕ) (q : Entries condition ticket entry) where
  -- jobs of one entry have one condition
  pub one-condition : (j k : ℕ) → Waits entry j → get_or entry k 0 ≡ get_or entry j 0 → condition k ≡ condition j
  one-condition j k w e = sym (q k (omega arith)).same ∙ ap (λ (x : ℕ). condition (x - 1)) e ∙ (q j w).same

  module _ (d : Distinct ticket entry) (j : ℕ) (w : Waits entry j) where
    -- jobs with one condition have one entry
    pub one_entry : (k : ℕ) → Waits entry k → condition k ≡ condition j → get_or entry k 0 ≡ get_or entry j 0
    one_entry k v e = omega (arith, d l m a.waits b.waits (omega (arith, a.oldest m b.waits (b.same ∙ e), b.oldest l a.waits (a.same ∙ sym e))))
      where
        l : ℕ
        l = get_or entry j 0 - 1

        m : ℕ
        m = get_or entry k 0 - 1

        a : Led condition ticket entry j l
        a = q j w

        b : Led condition ticket entry k m
        b = q k v

    -- a lead leads itself
    pub lead-leads : get_or entry (get_or entry j 0 - 1) 0 ≡ get_or entry j 0
    lead-leads = one_entry (get_or entry j 0 - 1) (q j w).waits (q j w).same

    pub lead_is : is_lead entry (get_or entry j 0 - 1) ≡ true
    lead_is = eq-eqb (get_or entry (get_or entry j 0 - 1) 0) (get_or entry j 0 - 1 + 1) (omega (arith, lead-leads))

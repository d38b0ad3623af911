-- Two conditions in their slots are identical if every number of one is that of the other: measure, operator and key of each atom in order,
-- and the counts.
use Rattle.std.specs.Prelude.{◌≡◌, Bool, false, List, ℕ, ◌*◌, min, ℤ, pos, get_or}
use Rattle.std.proofs.Common.{sym, ◌∙◌, eq-eqb, ne_eqb}
use Rattle.rules.specs.Base.{each, eq_z}
use Rattle.rules.specs.Condition.{same_atom, identical}
use Rattle.condition.specs.Along.{each_left, each-apart, each_start}
use Rattle.condition.specs.From.{from}
use Rattle.condition.specs.Closed.{atom_at, alternative_at, condition_at}

module _ (measure operator : List ℕ) (key : List ℤ) where
  -- ---- two atoms
  module _ (one other : ℕ) where
    abbrev Same : Bool
    Same = same_atom (atom_at measure operator key one) (atom_at measure operator key other)

    pub other-measure : (get_or measure one 0 ≡ get_or measure other 0 → ⊥) → false ≡ Same
    other-measure n = rw (ne_eqb (get_or measure one 0) (get_or measure other 0) n)

    pub other-operator : get_or measure one 0 ≡ get_or measure other 0 → (get_or operator one 0 ≡ get_or operator other 0 → ⊥) → false ≡ Same
    other-operator e n = rw (eq-eqb (get_or measure one 0) (get_or measure other 0) e, ne_eqb (get_or operator one 0) (get_or operator other 0) n)

    pub by_key : {b : Bool} → get_or measure one 0 ≡ get_or measure other 0 → get_or operator one 0 ≡ get_or operator other 0 → b ≡ eq_z (get_or key one (pos 0)) (get_or key other (pos 0)) → b ≡ Same
    by_key e d k = k ∙ rw (eq-eqb (get_or measure one 0) (get_or measure other 0) e, eq-eqb (get_or operator one 0) (get_or operator other 0) d)

  -- ---- two alternatives, and two conditions: n and m are their counts
  module _ (atoms : List ℕ) where
    pub atoms-apart : {n m : ℕ} (one other : ℕ) → n ≡ min (get_or atoms one 0) 4 → m ≡ min (get_or atoms other 0) 4 → (n ≡ m → ⊥) →
        false ≡ each same_atom (alternative_at atoms measure operator key one) (alternative_at atoms measure operator key other)
    atoms-apart one other p q h = each-apart same_atom (atom_at measure operator key) (atom_at measure operator key) (min (get_or atoms one 0) 4) (min (get_or atoms other 0) 4) (one * 4) (other * 4) (λ e. h (p ∙ e ∙ sym q))

    pub atoms-start : {n m : ℕ} (one other : ℕ) → n ≡ min (get_or atoms one 0) 4 → m ≡ min (get_or atoms other 0) 4 → n ≡ m →
        each_left same_atom (atom_at measure operator key) (atom_at measure operator key) n 0 (one * 4) (other * 4) ≡ each same_atom (alternative_at atoms measure operator key one) (alternative_at atoms measure operator key other)
    atoms-start {n} {m} one other p q e =
        each_start same_atom (atom_at measure operator key) (atom_at measure operator key) n (one * 4) (other * 4) e
        ∙ (λ i. each same_atom (from (atom_at measure operator key) (p i) (one * 4)) (from (atom_at measure operator key) (q i) (other * 4)))

    pub alternatives-apart : {n m : ℕ} (alternatives : List ℕ) (one other : ℕ) → n ≡ min (get_or alternatives one 0) 4 → m ≡ min (get_or alternatives other 0) 4 → (n ≡ m → ⊥) →
        false ≡ identical (condition_at alternatives atoms measure operator key one) (condition_at alternatives atoms measure operator key other)
    alternatives-apart alternatives one other p q h =
        each-apart (each same_atom) (alternative_at atoms measure operator key) (alternative_at atoms measure operator key) (min (get_or alternatives one 0) 4) (min (get_or alternatives other 0) 4) (one * 4) (other * 4) (λ e. h (p ∙ e ∙ sym q))

    pub alternatives-start : {n m : ℕ} (alternatives : List ℕ) (one other : ℕ) → n ≡ min (get_or alternatives one 0) 4 → m ≡ min (get_or alternatives other 0) 4 → n ≡ m →
        each_left (each same_atom) (alternative_at atoms measure operator key) (alternative_at atoms measure operator key) n 0 (one * 4) (other * 4) ≡ identical (condition_at alternatives atoms measure operator key one) (condition_at alternatives atoms measure operator key other)
    alternatives-start {n} alternatives one other p q e =
        each_start (each same_atom) (alternative_at atoms measure operator key) (alternative_at atoms measure operator key) n (one * 4) (other * 4) e
        ∙ (λ i. each (each same_atom) (from (alternative_at atoms measure operator key) (p i) (one * 4)) (from (alternative_at atoms measure operator key) (q i) (other * 4)))

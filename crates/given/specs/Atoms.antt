-- An atom that was put into a Wait's slots is what they hold there, and the slots keep to the ranges of what was put: the same for its
-- coefficients, one by one.
use Rattle.std.specs.Prelude.{◌≡◌, refl, List, ℕ, ◌+◌, ◌*◌, ◌<◌, ◌≤◌, ℤ, pos, get_or, length}
use Rattle.std.proofs.Common.{◌∙◌, arith, length-set, get_or-set_same, get_or-set_other}
use Rattle.rules.specs.Limits.{coefficient_most, value_most, operator_most}
use Rattle.rules.specs.Condition.{Given}
use Rattle.rules.specs.Laws.Bounds.{Within}
use Rattle.rules.specs.Laws.WellFormed.{GivenFits}
use Rattle.wire.specs.Numbers.{put_number, put_numbers}
use Rattle.wire.specs.WaitSlots.{AtomSlots, put_atom, no_slots}
use Rattle.condition.specs.Measures.{AllIn}
use Rattle.condition.specs.From.{from, from-same}
use Rattle.given.specs.Slots.{Puts, all-kept, all-good, all_back, set-every, replicate-every}

-- ---- coefficients
abbrev pub number_at : List ℤ → ℕ → ℤ
number_at l k = get_or l k (pos 0)

record Coefficients (l : List ℤ) : Type 0 where
  many : length l ≡ 64
  within : AllIn coefficient_most l

numbers : Puts put_number number_at (Within coefficient_most) Coefficients 64
numbers = record {
  same = λ slot l z h g w. get_or-set_same l slot z (pos 0) (omega (arith, g.many));
  kept = λ slot k l z h. get_or-set_other l slot k z (pos 0) (λ e. omega (arith, e));
  good = λ slot l z g w. record { many = length-set l slot z ∙ g.many; within = set-every (Within coefficient_most) (pos 0) l slot z w g.within };
}

-- ---- atoms, in a room with this many measures
abbrev pub given_atom_at : AtomSlots → ℕ → Given
given_atom_at s slot = record {
  measure = get_or s.measure slot 0;
  operator = get_or s.operator slot 0;
  coefficients = from (number_at s.coefficients) 4 (slot * 4);
  constant = get_or s.constant slot (pos 0);
}

module _ (measures : ℕ) where
  pub record AtomsFit (s : AtomSlots) : Type 0 where
    pub measures-many : length s.measure ≡ 16
    pub operators-many : length s.operator ≡ 16
    pub coefficients-many : length s.coefficients ≡ 64
    pub constants-many : length s.constant ≡ 16
    pub measure : (k : ℕ) → get_or s.measure k 0 < measures
    pub operator : (k : ℕ) → get_or s.operator k 0 ≤ operator_most
    pub coefficients : AllIn coefficient_most s.coefficients
    pub constant : AllIn value_most s.constant

  coefficients-of : {s : AtomSlots} → AtomsFit s → Coefficients s.coefficients
  coefficients-of g = record { many = g.coefficients-many; within = g.coefficients }

  atom-same : (slot : ℕ) (s : AtomSlots) (a : Given) → slot < 16 → AtomsFit s → GivenFits measures a → given_atom_at (put_atom slot s a) slot ≡ a
  atom-same slot s a h g f =
      let n : length a.coefficients ≡ 4 = f.coefficients.0 in
      let c = all_back numbers a.coefficients (slot * 4) s.coefficients (omega arith) (coefficients-of g) f.coefficients.1 in
      λ i. record {
        measure = get_or-set_same s.measure slot a.measure 0 (omega (arith, g.measures-many)) i;
        operator = get_or-set_same s.operator slot a.operator 0 (omega (arith, g.operators-many)) i;
        coefficients = (rw n at c) i;
        constant = get_or-set_same s.constant slot a.constant (pos 0) (omega (arith, g.constants-many)) i;
      }

  atom-kept : (slot k : ℕ) (s : AtomSlots) (a : Given) → k < slot → given_atom_at (put_atom slot s a) k ≡ given_atom_at s k
  atom-kept slot k s a h =
      let other : k ≡ slot → ⊥ = λ e. omega (arith, e) in
      let c = from-same (number_at (put_numbers (slot * 4) s.coefficients a.coefficients)) (number_at s.coefficients) 4 (k * 4)
      (λ j l. all-kept numbers a.coefficients (slot * 4) (k * 4 + j) s.coefficients (omega arith)) in
      λ i. record {
        measure = get_or-set_other s.measure slot k a.measure 0 other i;
        operator = get_or-set_other s.operator slot k a.operator 0 other i;
        coefficients = c i;
        constant = get_or-set_other s.constant slot k a.constant (pos 0) other i;
      }

  atom-good : (slot : ℕ) (s : AtomSlots) (a : Given) → AtomsFit s → GivenFits measures a → AtomsFit (put_atom slot s a)
  atom-good slot s a g f =
      let c = all-good numbers a.coefficients (slot * 4) s.coefficients (coefficients-of g) f.coefficients.1 in
      record {
        measures-many = length-set s.measure slot a.measure ∙ g.measures-many;
        operators-many = length-set s.operator slot a.operator ∙ g.operators-many;
        coefficients-many = c.many;
        constants-many = length-set s.constant slot a.constant ∙ g.constants-many;
        measure = set-every (λ m. m < measures) 0 s.measure slot a.measure f.measure g.measure;
        operator = set-every (λ o. o ≤ operator_most) 0 s.operator slot a.operator f.operator.1 g.operator;
        coefficients = c.within;
        constant = set-every (Within value_most) (pos 0) s.constant slot a.constant f.constant g.constant;
      }

  pub atoms : Puts put_atom given_atom_at (GivenFits measures) AtomsFit 16
  atoms = record { same = atom-same; kept = atom-kept; good = atom-good }

  -- slots that nothing was put into, where there is a measure
  pub no-atoms : 1 ≤ measures → AtomsFit no_slots.atoms
  no-atoms h = record {
    measures-many = refl;
    operators-many = refl;
    coefficients-many = refl;
    constants-many = refl;
    measure = replicate-every (λ m. m < measures) 0 16 (omega arith);
    operator = replicate-every (λ o. o ≤ operator_most) 0 16 (omega arith);
    coefficients = replicate-every (Within coefficient_most) (pos 0) 64 (record { abs = omega arith });
    constant = replicate-every (Within value_most) (pos 0) 16 (record { abs = omega arith });
  }

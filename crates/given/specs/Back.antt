-- What was put into a Wait's slots is what they hold: the atoms of each alternative, and the alternatives of the whole; and the slots keep to the
-- ranges of what was put.
use Rattle.std.specs.Prelude.{◌≡◌, refl, List, [], ◌∷◌, ℕ, ◌+◌, ◌*◌, ◌<◌, ◌≤◌, min, ℤ, pos, get_or, length}
use Rattle.std.proofs.Common.{ap, ◌∙◌, arith, length-set, get_or-set_same, get_or-set_other}
use Rattle.rules.specs.Condition.{Given}
use Rattle.rules.specs.Laws.Bounds.{Within}
use Rattle.rules.specs.Laws.WellFormed.{Numbers, GivenFits, Parts}
use Rattle.wire.specs.WaitSlots.{put_atoms, WaitSlots, put_alternative, put_alternatives, no_slots}
use Rattle.condition.specs.Measures.{AllIn}
use Rattle.condition.specs.Closing.{given_slots}
use Rattle.condition.specs.From.{from, from-same}
use Rattle.condition.specs.Closes.{given_condition}
use Rattle.given.specs.Slots.{Puts, all-kept, all-good, all_back, each-every}
use Rattle.given.specs.Atoms.{AtomsFit, given_atom_at, atoms, no-atoms}

-- ---- alternatives
abbrev alternative_at : WaitSlots → ℕ → List Given
alternative_at s i = from (given_atom_at s.atoms) (min (get_or s.counts i 0) 4) (i * 4)

module _ (measures : ℕ) where
  pub record WaitFits (s : WaitSlots) : Type 0 where
    pub many : length s.counts ≡ 4
    pub atoms : AtomsFit measures s.atoms

  alternative-same : (i : ℕ) (s : WaitSlots) (l : List Given) → i < 4 → WaitFits s → Parts (GivenFits measures) l → alternative_at (put_alternative i s l) i ≡ l
  alternative-same i s l h g f =
      let n : min (length l) 4 ≡ length l = omega (arith, f.0.1) in
      ap (λ k. from (given_atom_at (put_atoms (i * 4) s.atoms l)) (min k 4) (i * 4)) (get_or-set_same s.counts i (length l) 0 (omega (arith, g.many)))
      ∙ ap (λ k. from (given_atom_at (put_atoms (i * 4) s.atoms l)) k (i * 4)) n
      ∙ all_back (atoms measures) l (i * 4) s.atoms (omega (arith, f.0.1)) g.atoms f.1

  alternative-kept : (i j : ℕ) (s : WaitSlots) (l : List Given) → j < i → alternative_at (put_alternative i s l) j ≡ alternative_at s j
  alternative-kept i j s l h =
      ap (λ k. from (given_atom_at (put_atoms (i * 4) s.atoms l)) (min k 4) (j * 4)) (get_or-set_other s.counts i j (length l) 0 (λ e. omega (arith, e)))
      ∙ from-same (given_atom_at (put_atoms (i * 4) s.atoms l)) (given_atom_at s.atoms) (min (get_or s.counts j 0) 4) (j * 4)
      (λ k m. all-kept (atoms measures) l (i * 4) (j * 4 + k) s.atoms (omega arith))

  alternative-good : (i : ℕ) (s : WaitSlots) (l : List Given) → WaitFits s → Parts (GivenFits measures) l → WaitFits (put_alternative i s l)
  alternative-good i s l g f = record {
    many = length-set s.counts i (length l) ∙ g.many;
    atoms = all-good (atoms measures) l (i * 4) s.atoms g.atoms f.1;
  }

  alternatives : Puts put_alternative alternative_at (Parts (GivenFits measures)) WaitFits 4
  alternatives = record { same = alternative-same; kept = alternative-kept; good = alternative-good }

  -- ---- the whole: an atom names a measure, so there is one
  some-measure : (g : List (List Given)) → Parts (Parts (GivenFits measures)) g → 1 ≤ measures
  some-measure ((a ∷ l) ∷ m) f = omega (arith, f.1.0.1.0.measure)
  some-measure ([] ∷ m) f = absurd (omega (arith, f.1.0.0.0))
  some-measure [] f = absurd (omega (arith, f.0.0))

  none-fit : 1 ≤ measures → WaitFits no_slots
  none-fit h = record { many = refl; atoms = no-atoms measures h }

  module _ (g : List (List Given)) (fits : Parts (Parts (GivenFits measures)) g) where
    abbrev s : WaitSlots
    s = put_alternatives 0 no_slots g

    pub slots-fit : WaitFits s
    slots-fit = all-good alternatives g 0 no_slots (none-fit (some-measure g fits)) fits.1

    pub given_back : (locals : List ℤ) → given_condition (given_slots (length g) s.counts s.atoms.measure s.atoms.operator s.atoms.coefficients s.atoms.constant locals) ≡ g
    given_back locals =
        let n : min (length g) 4 ≡ length g = omega (arith, fits.0.1) in
        ap (λ k. from (alternative_at s) k 0) n ∙ all_back alternatives g 0 no_slots (omega (arith, fits.0.1)) (none-fit (some-measure g fits)) fits.1

pub numbers-in : (n most : ℕ) (l : List ℤ) → Numbers n most l → AllIn most l
numbers-in n most l h = each-every (Within most) (pos 0) l (record { abs = omega arith }) h.1

-- The slots that a Wait's numbers go into, and what each holds of a Wait that was read: 0 where it has no part.
use Rattle.std.specs.Prelude.{◌≡◌, List, ℕ, ◌*◌, ℤ, pos, length, set, replicate, Result, Ok, Err, OnOk}
use Rattle.rules.specs.Limits.{locals}
use Rattle.rules.specs.Number.{Read, read, refused, Reader, pure, ◌>>=◌, times}
use Rattle.rules.specs.Condition.{Given}
use Rattle.rules.specs.Record.{value, condition}
use Rattle.fields.specs.Answers.{place_of, numbered}
use Rattle.fields.specs.declared.refusal.Refusal.{Refusal}
use Rattle.wire.specs.Into.{put_all}
use Rattle.wire.specs.Numbers.{put_numbers}

-- ---- one atom in its slot
pub record AtomSlots : Type 0 where
  pub measure : List ℕ
  pub operator : List ℕ
  pub coefficients : List ℤ
  pub constant : List ℤ

abbrev pub atom_slots : List ℕ → List ℕ → List ℤ → List ℤ → AtomSlots
atom_slots measure operator coefficients constant = record { measure = measure; operator = operator; coefficients = coefficients; constant = constant }

abbrev pub put_atom : ℕ → AtomSlots → Given → AtomSlots
put_atom slot s a = record {
  measure = set s.measure slot a.measure;
  operator = set s.operator slot a.operator;
  coefficients = put_numbers (slot * 4) s.coefficients a.coefficients;
  constant = set s.constant slot a.constant;
}

abbrev pub put_atoms : ℕ → AtomSlots → List Given → AtomSlots
put_atoms = put_all put_atom

-- ---- alternatives: an atom count each, and the atoms from four times its number on
pub record WaitSlots : Type 0 where
  pub counts : List ℕ
  pub atoms : AtomSlots

abbrev pub wait_slots : List ℕ → AtomSlots → WaitSlots
wait_slots counts atoms = record { counts = counts; atoms = atoms }

abbrev pub put_alternative : ℕ → WaitSlots → List Given → WaitSlots
put_alternative i s l = record { counts = set s.counts i (length l); atoms = put_atoms (i * 4) s.atoms l }

abbrev pub put_alternatives : ℕ → WaitSlots → List (List Given) → WaitSlots
put_alternatives = put_all put_alternative

-- ---- the whole: slots that nothing was put into, the rules' reader, and what the lent slots then hold
abbrev pub no_locals : List ℤ
no_locals = replicate 4 (pos 0)

abbrev pub no_slots : WaitSlots
no_slots = wait_slots (replicate 4 0) (atom_slots (replicate 16 0) (replicate 16 0) (replicate 64 (pos 0)) (replicate 16 (pos 0)))

-- the local values and the condition as it is given
pub record Body : Type 0 where
  pub locals : List ℤ
  pub condition : List (List Given)

abbrev pub numbers : ℕ → Reader Body
numbers measures = do
  l ← times locals value
  g ← condition measures
  pure (record { locals = l; condition = g })

abbrev pub as_wait : List ℕ → Read Body → Result (ℕ × ℕ) ℕ
as_wait bytes (read b rest) = Ok (length b.condition, place_of bytes rest)
as_wait bytes (refused k) = Err k

abbrev pub locals_of : Read Body → List ℤ
locals_of (read b rest) = b.locals
locals_of (refused k) = no_locals

abbrev pub slots_of : Read Body → WaitSlots
slots_of (read b rest) = put_alternatives 0 no_slots b.condition
slots_of (refused k) = no_slots

abbrev pub ReadsWait : List ℕ → Read Body → Result (ℕ × ℕ) ℕ → List ℤ → WaitSlots → Type 0
ReadsWait bytes x r l s = (r ≡ as_wait bytes x) × (l ≡ locals_of x) × (s ≡ slots_of x)

-- the same, and nothing is said of the slots after a refusal: the caller clears them
pub record ReadsBody (bytes : List ℕ) (x : Read Body) (r : Result (ℕ × ℕ) Refusal) (l : List ℤ) (s : WaitSlots) : Type 0 where
  pub answers : numbered r ≡ as_wait bytes x
  pub holds : OnOk r ((l ≡ locals_of x) × (s ≡ slots_of x))

-- "Conditions": measure, closure, truth, identity.
use Rattle.std.specs.Prelude.{Bool, false, not, ◌&&◌, List, [], ◌∷◌, map, ℕ, eqb, get_or, ℤ, pos, ◌+ℤ◌, ◌*ℤ◌}
use Rattle.std.specs.Int.Signed.{lt_z, le_z}
use Rattle.rules.specs.Base.{all, any, each, eq_z}

-- an atom as it is given: a measure against coefficients of the local values, and a constant
pub record Given : Type 0 where
  pub measure : ℕ
  pub operator : ℕ
  pub coefficients : List ℤ
  pub constant : ℤ

-- an atom after closure: the measure against a key
pub record Atom : Type 0 where
  pub measure : ℕ
  pub operator : ℕ
  pub key : ℤ

-- alternatives, each of them atoms
abbrev pub Condition : Type 0
Condition = List (List Atom)

-- the sum of coefficient times value
abbrev pub products : List ℤ → List ℤ → ℤ
products [] m = pos 0
products (x ∷ l) [] = pos 0
products (x ∷ l) (y ∷ m) = (x *ℤ y) +ℤ products l m

-- the local values put in: coefficients times them, plus the constant
abbrev pub close : List ℤ → Given → Atom
close locals a = record { measure = a.measure; operator = a.operator; key = products a.coefficients locals +ℤ a.constant }

abbrev pub closure : List ℤ → List (List Given) → Condition
closure locals = map (map (close locals))

-- of a measure's value x and a key k: 1 =, 2 ≠, 3 <, 4 ≤, 5 >, 6 ≥, and no other operator holds
abbrev pub compares : ℕ → ℤ → ℤ → Bool
compares operator x k = get_or (false ∷ eq_z x k ∷ not (eq_z x k) ∷ lt_z x k ∷ le_z x k ∷ lt_z k x ∷ le_z k x ∷ []) operator false

-- what is true is said over the values of the measures
module _ (now : List ℤ) where
  abbrev pub atom_true : Atom → Bool
  atom_true a = compares a.operator (get_or now a.measure (pos 0)) a.key

  abbrev pub alternative_true : List Atom → Bool
  alternative_true = all atom_true

  abbrev pub condition_true : Condition → Bool
  condition_true = any alternative_true

-- the same alternatives in the same order, with the same atoms in the same order: measure, operator and key
abbrev pub same_atom : Atom → Atom → Bool
same_atom a b = eqb a.measure b.measure && eqb a.operator b.operator && eq_z a.key b.key

abbrev pub identical : Condition → Condition → Bool
identical = each (each same_atom)

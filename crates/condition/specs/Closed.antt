-- Closed conditions in their slots. A job has four nodes, one for each alternative it may have, and a node four slots, one for each atom:
-- alternative i of job j is node 4 * j + i, and its atom k stands in slot 4 * (4 * j + i) + k.
use Rattle.std.specs.Prelude.{List, ℕ, ◌*◌, min, ℤ, pos, get_or}
use Rattle.rules.specs.Condition.{Atom, Condition}
use Rattle.condition.specs.From.{from}

abbrev pub atom_at : List ℕ → List ℕ → List ℤ → ℕ → Atom
atom_at measure operator key slot = record { measure = get_or measure slot 0; operator = get_or operator slot 0; key = get_or key slot (pos 0) }

-- a count is read as at most four
abbrev pub alternative_at : List ℕ → List ℕ → List ℕ → List ℤ → ℕ → List Atom
alternative_at atoms measure operator key node = from (atom_at measure operator key) (min (get_or atoms node 0) 4) (node * 4)

abbrev pub condition_at : List ℕ → List ℕ → List ℕ → List ℕ → List ℤ → ℕ → Condition
condition_at alternatives atoms measure operator key job = from (alternative_at atoms measure operator key) (min (get_or alternatives job 0) 4) (job * 4)

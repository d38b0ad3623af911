-- "The tag of an alternative" (figure 3 of the paper), and whether it holds.
use Rattle.std.specs.Prelude.{Bool, true, List, leb, eqb, ℤ}
use Rattle.std.proofs.Math.Option.{Option, none, some}
use Rattle.rules.specs.Base.{first}
use Rattle.rules.specs.Condition.{Atom, atom_true}

-- operator 1 is =; 3 to 6 are <, ≤, > and ≥
abbrev pub is_equality : Atom → Bool
is_equality a = eqb a.operator 1

abbrev pub is_threshold : Atom → Bool
is_threshold a = leb 3 a.operator

abbrev pub or_else : Option Atom → Option Atom → Option Atom
or_else (some a) o = some a
or_else none o = o

-- its first atom with =; if none, its first with <, ≤, > or ≥; if none, no tag
abbrev pub tag : List Atom → Option Atom
tag alternative = or_else (first is_equality alternative) (first is_threshold alternative)

-- an alternative without a tag counts as one whose tag holds
abbrev pub holds : List ℤ → Option Atom → Bool
holds now (some a) = atom_true now a
holds now none = true

abbrev pub tag_holds : List ℤ → List Atom → Bool
tag_holds now alternative = holds now (tag alternative)

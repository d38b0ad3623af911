-- "Which job a search calls": a rank is a list of numbers, and the first two that differ decide.
use Rattle.std.specs.Prelude.{Bool, true, false, List, [], ◌∷◌, ◌++◌, ℕ, ◌%◌, leb, ℤ, pos, neg_ℤ, if◌then◌else◌}
use Rattle.std.proofs.Math.Option.{Option, none, some}
use Rattle.std.specs.Int.Signed.{lt_z}
use Rattle.rules.specs.Condition.{Atom}
use Rattle.rules.specs.Tag.{tag, is_equality}

abbrev pub before : List ℤ → List ℤ → Bool
before [] [] = false
before [] (y ∷ m) = true
before (x ∷ l) [] = false
before (x ∷ l) (y ∷ m) = if lt_z x y then true else if lt_z y x then false else before l m

-- of an operator 3 <, 4 ≤, 5 >, 6 ≥
abbrev pub is_upward : Atom → Bool
is_upward a = leb 5 a.operator

abbrev pub strict : Atom → ℤ
strict a = pos (a.operator % 2)

-- Class (equality 0, threshold 1, no tag 2) and measure; of a threshold then > and ≥ before < and ≤, the smaller key of
-- > and ≥, the larger of < and ≤, and at one key ≥ before > and ≤ before <.
abbrev pub place : Option Atom → List ℤ
place none = pos 2 ∷ []
place (some a) =
    if is_equality a then pos 0 ∷ pos a.measure ∷ []
    else if is_upward a then pos 1 ∷ pos a.measure ∷ pos 0 ∷ a.key ∷ strict a ∷ []
    else pos 1 ∷ pos a.measure ∷ pos 1 ∷ neg_ℤ a.key ∷ strict a ∷ []

-- of alternative number i of a condition with this ticket: then the older ticket, then the earlier alternative
abbrev pub rank : List Atom → ℕ → ℕ → List ℤ
rank alternative ticket i = place (tag alternative) ++ (pos ticket ∷ pos i ∷ [])

-- The starred examples about closure and tags, for the functions of `closing` and of this crate: each by its contract's definition, at slots
-- that hold the example.
use Rattle.std.specs.Prelude.{◌≡◌, refl, List, [], ◌∷◌, map, ℕ, ℤ, pos, negsuc}
use Rattle.std.proofs.Math.Option.{Option, none, some}
use Rattle.rules.specs.Condition.{Atom}
use Rattle.integers.specs.Sums.{sum}
use Rattle.condition.specs.Closing.{key_at}
use Rattle.condition.specs.Tags.{first_at, tag_at, tag_means}

-- one node's atoms: measures, operators and keys
pub record Slots : Type 0 where
  pub measure : List ℕ
  pub operator : List ℕ
  pub key : List ℤ
  pub count : ℕ

abbrev pub tag_of : Slots → Option Atom
tag_of s = tag_means s.measure s.operator s.key (tag_at (s.count ∷ []) s.operator 0)

abbrev pub tags : List Slots
tags =
    record { measure = 0 ∷ 1 ∷ []; operator = 3 ∷ 1 ∷ []; key = pos 5 ∷ pos 3 ∷ []; count = 2 }
    ∷ record { measure = 0 ∷ 1 ∷ []; operator = 1 ∷ 1 ∷ []; key = pos 8 ∷ pos 9 ∷ []; count = 2 }
    ∷ record { measure = 0 ∷ []; operator = 2 ∷ []; key = pos 8 ∷ []; count = 1 }
    ∷ []

abbrev atom : ℕ → ℕ → ℕ → Atom
atom measure operator key = record { measure = measure; operator = operator; key = pos key }

-- (x < 5 and y = 3) has the tag y = 3; (x = 8 and y = 9) has x = 8; (x ≠ 8) has none; and x − 2y > a − b with a = 11, b = 2 closes to key 9
pub board-slots : (map tag_of tags ≡ some (atom 1 1 3) ∷ some (atom 0 1 8) ∷ none ∷ [])
    × (key_at (pos 1 ∷ negsuc 0 ∷ pos 0 ∷ pos 0 ∷ []) (pos 11 ∷ pos 2 ∷ pos 0 ∷ pos 0 ∷ []) (pos 0 ∷ []) 0 ≡ pos 9)
unfolding sum first_at
board-slots = (refl, refl)

-- The law of the search. For any list of pairs in rank order that holds exactly the alternatives, of the oldest job of each
-- distinct condition, whose tag holds: the first true one, and how many there are up to it, are what the search finds and
-- counts. For a younger job's pair has a twin, of the oldest, before it; and a true alternative's tag holds.
use Rattle.std.specs.Prelude.{◌≡◌, Bool, true, List, [], ◌∷◌, ℕ, suc, if◌then◌else◌}
use Rattle.rules.specs.Rank.{before}
use Rattle.rules.specs.Search.{Pair}
use Rattle.rules.specs.Laws.In.{In}

-- ---- the statement's words
abbrev pub InRankOrder : List Pair → Type 0
InRankOrder [] = Unit {0}
InRankOrder (p ∷ l) = ((q : Pair) → In q l → before p.rank q.rank ≡ true) × InRankOrder l

-- how many there are up to the first that passes, or all if none does
abbrev pub up_to : {A : Type 0} → (A → Bool) → List A → ℕ
up_to p [] = 0
up_to p (a ∷ l) = suc (if p a then 0 else up_to p l)

-- Demand 1: every byte string gets an answer or a numbered refusal, and a refused event, like one of which no byte is left, gives back
-- the same room and tally. A reader refuses with 1 to 4 and has then taken nothing; a step refuses with 5 to 7 and hands its room out.
use Rattle.std.specs.Prelude.{◌≡◌, ◌⊎◌, List, [], ℕ, ◌≤◌}
use Rattle.rules.specs.Number.{Read, read, refused}
use Rattle.rules.specs.Room.{Room}
use Rattle.rules.specs.Step.{Report, accepted, refusal, nothing}
use Rattle.rules.specs.Laws.Readers.{Took}
use Rattle.rules.specs.Laws.WellFormed.{Opening}

-- ---- events
-- what an answer to these bytes must be, by its report
abbrev pub Answers : Room → List ℕ → Room → List ℕ → Report → Type 0
Answers r bytes q rest (accepted o j n) = Took 2 bytes rest
Answers r bytes q rest (refusal k) = (q ≡ r) × (((1 ≤ k) × (k ≤ 4) × (rest ≡ bytes)) ⊎ ((5 ≤ k) × (k ≤ 7) × Took 2 bytes rest))
Answers r bytes q rest nothing = (q ≡ r) × (bytes ≡ []) × (rest ≡ [])

-- ---- openings
abbrev pub OpeningAnswered : List ℕ → Read Room → Type 0
OpeningAnswered bytes (read r rest) = Opening r × Took 1 bytes rest
OpeningAnswered bytes (refused n) = (1 ≤ n) × (n ≤ 4)

-- "The program and one whole run": what it writes for the bytes of its input.
use Rattle.std.specs.Prelude.{true, false, List, [], ◌∷◌, ◌++◌, ℕ, zero, suc, ◌+◌, ◌/◌, ◌%◌, ltb, leb, length}
use Rattle.std.proofs.Math.Option.{Option, none, some}
use Prim.Native.String.{String, [] as none_left, ◌∷◌ as letter}
use Prim.Native.Char.{code}
use Rattle.rules.specs.Limits.{stream_most}
use Rattle.rules.specs.Number.{Read, read, refused}
use Rattle.rules.specs.Room.{Room}
use Rattle.rules.specs.Step.{Outcome, done, enters, waits, on, back, Report, accepted, refusal, nothing}
use Rattle.rules.specs.Record.{opening}
use Rattle.rules.specs.Tally.{take}

abbrev pub text : String → List ℕ
text none_left = []
text (letter c s) = code c ∷ text s

-- n in decimal, before what follows; the first argument is above the number of digits
abbrev pub digits : ℕ → ℕ → List ℕ → List ℕ
digits zero n after = after
digits (suc most) n after = elim (ltb n 10) [ true ↦ (48 + n) ∷ after | false ↦ digits most (n / 10) ((48 + n % 10) ∷ after) ]

abbrev pub decimal : ℕ → List ℕ
decimal n = digits (suc n) n []

-- two fields with one space between, and a line
infixr 7 ◌␣◌
abbrev pub ◌␣◌ : List ℕ → List ℕ → List ℕ
a ␣ b = a ++ (32 ∷ b)

abbrev pub line : List ℕ → List ℕ → List ℕ
line l after = l ++ (10 ∷ after)

abbrev pub job : Option ℕ → List ℕ
job none = text "-"
job (some j) = decimal j

abbrev pub outcome_word : Outcome → List ℕ
outcome_word done = text "done"
outcome_word enters = text "in"
outcome_word waits = text "waits"
outcome_word on = text "on"
outcome_word back = text "back"

-- What is written for event n, after `before` accepted ones, in room r: q is the room after it, `rest` the bytes after it, and `next`
-- gives the lines from the next event on.
abbrev pub reported : ℕ → ℕ → Room → Room → List ℕ → (ℕ → ℕ → Room → List ℕ → List ℕ) → Report → List ℕ
reported n before r q rest next (accepted o calls count) = line (decimal n ␣ outcome_word o ␣ job calls ␣ decimal count) (next (suc n) (suc before) q rest)
reported n before r q rest next (refusal k) =
    line (decimal n ␣ text "refused" ␣ decimal k) (elim (leb k 4) [ true ↦ line (text "end" ␣ decimal before) [] | false ↦ next (suc n) before r rest ])
reported n before r q rest next nothing = line (text "end" ␣ decimal before) []

-- The lines from event n on. The first argument is above the number of events, since each takes bytes or ends the listing.
abbrev pub lines : ℕ → ℕ → ℕ → Room → List ℕ → List ℕ
lines zero n before r bytes = []
lines (suc most) n before r bytes = let t = take r bytes in reported n before r t.result.room t.rest (lines most) t.result.report

abbrev pub run : Read Room → List ℕ
run (read r rest) = line (text "open" ␣ decimal (length r.measures)) (lines (suc (length rest)) 1 0 r rest)
run (refused n) = line (text "open refused" ␣ decimal n) []

abbrev pub listing : List ℕ → List ℕ
listing bytes = elim (ltb stream_most (length bytes)) [ true ↦ line (text "refused 8") [] | false ↦ run (opening bytes) ]

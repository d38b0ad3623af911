-- "Bytes": an opening and an event, field by field.
use Rattle.std.specs.Prelude.{List, ℕ, eqb, ℤ, if◌then◌else◌}
use Rattle.rules.specs.Limits.{jobs, variables, measures_most, value_most, coefficient_most, parts_most, locals, kind_most, operator_most}
use Rattle.rules.specs.Number.{Reader, pure, ◌>>=◌, times, field, below, signed_field}
use Rattle.rules.specs.Condition.{Given}
use Rattle.rules.specs.Room.{Room, opened}
use Rattle.rules.specs.Step.{Event, arrive, admit, assign, wait, leave}

-- a shared value, a local value or a constant
abbrev pub value : Reader ℤ
value = signed_field value_most

abbrev pub coefficient : Reader ℤ
coefficient = signed_field coefficient_most

-- a count from one to four, then so many
abbrev pub counted : {A : Type 0} → Reader A → Reader (List A)
counted p = do
  n ← field 4 1 parts_most
  times n p

abbrev pub opening : Reader Room
opening = do
  n ← field 4 1 measures_most
  measures ← times n (times variables coefficient)
  values ← times variables value
  pure (opened measures values)

-- for a room with this many measures
module _ (measures : ℕ) where
  abbrev pub atom : Reader Given
  atom = do
    measure ← below measures
    operator ← field 3 1 operator_most
    coefficients ← times locals coefficient
    constant ← value
    pure (record { measure = measure; operator = operator; coefficients = coefficients; constant = constant })

  abbrev pub condition : Reader (List (List Given))
  condition = counted (counted atom)

  -- by kind: 1 Arrive, 2 Admit, 3 Set, 4 Wait, 5 Leave
  abbrev pub of_kind : ℕ → ℕ → Reader Event
  of_kind kind job =
      if eqb kind 1 then pure (arrive job)
      else if eqb kind 2 then pure (admit job)
      else if eqb kind 3 then (do
        v ← below variables
        x ← value
        pure (assign job v x))
      else if eqb kind 4 then (do
        l ← times locals value
        given ← condition
        pure (wait job l given))
      else pure (leave job)

  abbrev pub event : Reader Event
  event = do
    kind ← field 3 1 kind_most
    job ← below jobs
    of_kind kind job

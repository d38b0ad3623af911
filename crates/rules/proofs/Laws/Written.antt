-- An opening, an atom and a condition: what is written reads back as the same, and what was read is written as it stood. Lists of document 01's lengths are
-- all that is asked.
use Rattle.std.specs.Prelude.{refl, ℕ, ◌<◌, length}
use Rattle.std.proofs.Common.{sym, ◌∙◌, arith}
use Rattle.rules.specs.Limits.{variables, measures_most, value_most, coefficient_most, locals, parts_most, operator_most}
use Rattle.rules.specs.Number.{Reader, times, field, below}
use Rattle.rules.specs.Condition.{Given}
use Rattle.rules.specs.Room.{Room, opened}
use Rattle.rules.specs.Record.{value, coefficient, counted, opening, atom, condition}
use Rattle.rules.specs.Writer.{Written, all-written, write_field, write_below, write_value, write_coefficient, write_counted, write_atom, write_condition}
use Rattle.rules.specs.Laws.Bounds.{Each}
use Rattle.rules.specs.Laws.Halves.{Halves, halves-same, halves-then, halves-last, halves-times}
use Rattle.rules.proofs.Laws.FieldHalves.{halves-field, halves-below, halves-signed}
use Rattle.rules.specs.Laws.Written.{Any, OpeningShape, write_room, AtomShape, ConditionShape}

pub halves-value : Halves Any value write_value
halves-value = halves-signed value_most (omega arith)

pub halves-coefficient : Halves Any coefficient write_coefficient
halves-coefficient = halves-signed coefficient_most (omega arith)

-- a count from one to four, then so many
pub halves-counted : {A : Type 0} {P : A → Type 0} (p : Reader A) (w : A → Written) → Halves P p w → Halves (Each P) (counted p) (write_counted w)
halves-counted p w h =
    halves-then length (field 4 1 parts_most) (write_field 4 1 parts_most) (λ n. times n p) (all-written w) (λ l q. tt) (halves-field 4 1 parts_most (omega arith))
    (λ n _. halves-same (λ l m. (m.1, m.0)) (λ l q. (q.1, q.0)) (halves-times p w h n))

pub halves-opening : Halves OpeningShape opening write_room
halves-opening =
    halves-then (λ (r : Room). length r.measures) (field 4 1 measures_most) (write_field 4 1 measures_most) _ _ (λ r q. tt) (halves-field 4 1 measures_most (omega arith))
    (λ n _. halves-then (λ (r : Room). r.measures) (times n (times variables coefficient)) (all-written (all-written write_coefficient)) _ _ (λ r q. (q.1, q.0.coefficients))
    (halves-times (times variables coefficient) (all-written write_coefficient) (halves-times coefficient write_coefficient halves-coefficient variables) n)
    (λ m f. halves-last (λ (r : Room). r.values) (λ v. opened m v) (times variables value) (all-written write_value) (λ r q. q.0.0.values)
    (λ r q. (λ i. opened (sym q.1 i) r.values) ∙ q.0.0.opens)
    (λ v g. (((record { coefficients = f.1; values = g; opens = refl }, f.0), refl), refl)) (halves-times value write_value halves-value variables)))

module _ (measures : ℕ) (few : measures < 4_294_967_296) where
  pub halves-atom : Halves AtomShape (atom measures) (write_atom measures)
  halves-atom =
      halves-then (λ (a : Given). a.measure) (below measures) (write_below measures) _ _ (λ a q. tt) (halves-below measures few)
      (λ m _. halves-then (λ (a : Given). a.operator) (field 3 1 operator_most) (write_field 3 1 operator_most) _ _ (λ a q. tt) (halves-field 3 1 operator_most (omega arith))
      (λ o _. halves-then (λ (a : Given). a.coefficients) (times locals coefficient) (all-written write_coefficient) _ _ (λ a q. q.0.0) (halves-times coefficient write_coefficient halves-coefficient locals)
      (λ c g. halves-last (λ (a : Given). a.constant) (λ k. record { measure = m; operator = o; coefficients = c; constant = k }) value write_value (λ a q. tt)
      (λ a q. (λ i. record { measure = sym q.0.0.1 i; operator = sym q.0.1 i; coefficients = sym q.1 i; constant = a.constant }))
      (λ k _. ((((g, refl), refl), refl), refl)) halves-value)))

  pub halves-condition : Halves ConditionShape (condition measures) (write_condition measures)
  halves-condition = halves-counted (counted (atom measures)) (write_counted (write_atom measures)) (halves-counted (atom measures) (write_atom measures) halves-atom)

-- The count is put, which says how many rows follow; then the values.
use Rattle.std.proofs.Common.{◌≡◌, ◌&&◌, List, ℕ, ◌*◌, ◌≤◌, leb, ℤ, pos, get_or, length, refl, arith}
use Rattle.rules.specs.Writer.{written, ◌then◌, all-written, write_coefficient, write_value}
use Rattle.condition.specs.From.{from, from-many}
use Rattle.writer.specs.Puts.{field-numbered, near, puts-stopped, puts_then, only-short, all_short, signed-short}
use Rattle.writer.specs.Rows.{part_as, whole_as}
use Rattle.writer.specs.Givens.{field-in}
use Rattle.writer.specs.Openings.{values_given, opening-put}
use Rattle.writer.proofs.openings.put_opening.Goals as goal

rows_short : (f : ℕ → ℤ) (n : ℕ) (l : List ℕ) → all-written write_coefficient (from f (n * 8) 0) ≡ written l → length l ≤ n * 40
rows_short f n l e = omega (arith, all_short write_coefficient 5 (signed-short 100) (from f (n * 8) 0) l e, from-many f (n * 8) 0)

pub returns-in_err-after_count : goal.returns-in_err-after_count
returns-in_err-after_count c =
    let a = c.args in
    opening-put a.coefficients.now a.values.now a.measures
    (puts-stopped (field-numbered c.in_err-after_count.ensures)
    (all-written write_coefficient (from (λ k. get_or a.coefficients.now k (pos 0)) (a.measures * 8) 0) then all-written write_value
    (values_given a.values.now)) refl c.from_residual.ensures.1)

pub returns-in_err-after_rows : goal.returns-in_err-after_rows
returns-in_err-after_rows c =
    let a = c.args in
    let one = field-numbered c.in_ok-after_count.ensures in
    let h = field-in 4 1 16 a.measures one in
    let rows = part_as write_coefficient (pos 0) a.coefficients.now (a.measures * 8) 0 (omega arith)
    (omega arith) c.in_err-after_rows.ensures in
    opening-put a.coefficients.now a.values.now a.measures
    (puts_then one refl
    (puts-stopped rows (all-written write_value (values_given a.values.now)) refl c.from_residual-in_err-after_rows.ensures.1))

pub put_numbers-requires-2-clause-fact_1 : goal.put_numbers-requires-2-clause-fact_1
put_numbers-requires-2-clause-fact_1 c =
    let a = c.args in
    let one = field-numbered c.in_ok-after_count.ensures in
    let h = field-in 4 1 16 a.measures one in
    let two = part_as write_coefficient (pos 0) a.coefficients.now (a.measures * 8) 0 (omega arith)
    (omega arith) c.in_ok-after_rows.ensures in
    let n = near one 5 (only-short (leb 1 a.measures && leb a.measures 16) 4 a.measures) refl in
    let m = near two (a.measures * 40) (rows_short (λ k. get_or a.coefficients.now k (pos 0)) a.measures) refl in
    omega (arith, c.requires, one.long, two.long, h, n, m)

pub returns : goal.returns
returns c =
    let a = c.args in
    let one = field-numbered c.in_ok-after_count.ensures in
    let h = field-in 4 1 16 a.measures one in
    let rows = part_as write_coefficient (pos 0) a.coefficients.now (a.measures * 8) 0 (omega arith)
    (omega arith) c.in_ok-after_rows.ensures in
    let values = whole_as write_value (pos 0) a.values.now 8 (omega arith) c.put_numbers-2.ensures in
    opening-put a.coefficients.now a.values.now a.measures (puts_then one refl (puts_then rows refl values))

-- Field after field, each at the place after the one before.
use Rattle.std.proofs.Common.{◌*◌, ◌&&◌, leb, ltb, pos, get_or, refl, rules, arith}
use Rattle.rules.specs.Writer.{write_coefficient, write_value}
use Rattle.writer.specs.Puts.{field-numbered, near, puts-stopped, puts_then, puts-signed, only-short, all_short, signed-short}
use Rattle.writer.specs.Rows.{part_as}
use Rattle.writer.specs.Givens.{atom_of, below_as, field-as}
use Rattle.writer.proofs.conditions.put_atom.Goals as goal

pub returns-in_err-after_row : goal.returns-in_err-after_row
returns-in_err-after_row c =
    let a = c.args in
    let row = part_as write_coefficient (pos 0) a.given.now.coefficients 4 (a.slot * 4) (omega arith)
    (omega arith) c.in_err-after_row.ensures in
    puts_then (below_as a.measures c.from-measure.ensures c.in_ok-after_measure.ensures) refl
    (puts_then (field-as 3 1 6 c.from-operator.ensures (field-numbered c.in_ok-after_operator.ensures)) refl
    (puts-stopped row (write_value (get_or a.given.now.constant a.slot (pos 0))) refl c.from_residual-in_err-after_row.ensures.1))

pub put_signed-requires-clause-fact_1 : goal.put_signed-requires-clause-fact_1
put_signed-requires-clause-fact_1 c =
    let a = c.args in
    let atom = atom_of a.given.now a.slot in
    let one = below_as a.measures c.from-measure.ensures c.in_ok-after_measure.ensures in
    let two = field-as 3 1 6 c.from-operator.ensures (field-numbered c.in_ok-after_operator.ensures) in
    let three = part_as write_coefficient (pos 0) a.given.now.coefficients 4 (a.slot * 4) (omega arith)
    (omega arith) c.in_ok-after_row.ensures in
    omega (
      arith,
      c.requires.fact_2,
      one.long,
      two.long,
      three.long,
      near one 5 (only-short (ltb atom.measure a.measures) 4 atom.measure) refl,
      near two 5 (only-short (leb 1 atom.operator && leb atom.operator 6) 3 atom.operator) refl,
      near three 20 (all_short write_coefficient 5 (signed-short 100) atom.coefficients) refl,
    )

pub returns : goal.returns
returns c =
    let a = c.args in
    let row = part_as write_coefficient (pos 0) a.given.now.coefficients 4 (a.slot * 4) (omega arith)
    (omega arith) c.in_ok-after_row.ensures in
    puts_then (below_as a.measures c.from-measure.ensures c.in_ok-after_measure.ensures) refl
    (puts_then (field-as 3 1 6 c.from-operator.ensures (field-numbered c.in_ok-after_operator.ensures)) refl
    (puts_then row refl (puts-signed 1_000_000 (get_or a.given.now.constant a.slot (pos 0)) (search rules) c.put_signed.ensures)))

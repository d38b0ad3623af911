-- One law for each way out, over what was read before it.
use Rattle.wire.specs.Into.{told}
use Rattle.wire.specs.Numbers.{numbers-sound}
use Rattle.wire.specs.Waits.{atom-no-operator, atom-no-row, atom-no-constant, atom-read}
use Rattle.wire.proofs.given.Given.read_atom.Goals as goal

pub returns-in_err-operator-clause-atoms : goal.returns-in_err-operator-clause-atoms
returns-in_err-operator-clause-atoms c =
    let a = c.args in
    let e = c.from_residual-in_err-operator in
    atom-no-operator a.measures a.bytes.now a.at a.slot (rw c.from.ensures at c.read_below.ensures) c.in_ok-measure.was
    c.read_field.result c.read_field.ensures e.result c.in_err-operator.was e.ensures.1

pub returns-in_err-last-clause-atoms : goal.returns-in_err-last-clause-atoms
returns-in_err-last-clause-atoms c =
    let a = c.args in
    let e = c.from_residual-in_err-last in
    atom-no-row a.measures a.bytes.now a.at a.slot (rw c.from.ensures at c.read_below.ensures) c.in_ok-measure.was c.read_field.result
    c.read_field.ensures c.in_ok-operator.was e.result c.read_numbers.ensures c.in_err-last.was e.ensures.1

pub returns-in_err-end-clause-atoms : goal.returns-in_err-end-clause-atoms
returns-in_err-end-clause-atoms c =
    let a = c.args in
    let e = c.from_residual-in_err-end in
    let row = told (numbers-sound 4 100) c.in_ok-operator.row c.read_numbers.ensures c.in_ok-last.was in
    atom-no-constant a.measures a.bytes.now a.at a.slot (rw c.from.ensures at c.read_below.ensures) c.in_ok-measure.was
    c.read_field.result c.read_field.ensures c.in_ok-operator.was row e.result c.read_numbers-2.ensures c.in_err-end.was e.ensures.1

pub returns-clause-atoms : goal.returns-clause-atoms
returns-clause-atoms c =
    let a = c.args in
    let row = told (numbers-sound 4 100) c.in_ok-operator.row c.read_numbers.ensures c.in_ok-last.was in
    let one = told (numbers-sound 1 1_000_000) c.in_ok-last.last c.read_numbers-2.ensures c.in_ok-end.was in
    atom-read a.measures a.bytes.now a.at a.slot (rw c.from.ensures at c.read_below.ensures) c.in_ok-measure.was c.read_field.result
    c.read_field.ensures c.in_ok-operator.was row one

-- One law for each way out, over what was read before it.
use Rattle.wire.specs.Waits.{wait-no-count, wait-no-alternatives, wait-read}
use Rattle.wire.proofs.given.Given.read_body.Goals as goal

pub returns-in_err-count : goal.returns-in_err-count
returns-in_err-count c =
    let a = c.args in
    let e = c.from_residual-in_err-count in
    wait-no-count a.measures a.bytes.now a.at c.requires.0 c.read_numbers.ensures c.in_ok-next.was c.read_field.result
    c.read_field.ensures e.result c.in_err-count.was e.ensures.1

pub returns-in_err-end : goal.returns-in_err-end
returns-in_err-end c =
    let a = c.args in
    let e = c.from_residual-in_err-end in
    wait-no-alternatives a.measures a.bytes.now a.at c.requires.0 c.read_numbers.ensures c.in_ok-next.was c.read_field.result
    c.read_field.ensures c.in_ok-count.was c.requires.1 c.read_alternatives.ensures.slots e.result
    c.in_err-end.was e.ensures.1

pub returns : goal.returns
returns c =
    let a = c.args in
    wait-read a.measures a.bytes.now a.at c.requires.0 c.read_numbers.ensures c.in_ok-next.was c.read_field.result c.read_field.ensures
    c.in_ok-count.was c.requires.1 c.read_alternatives.ensures.slots c.in_ok-end.was
    c.read_alternatives.ensures.rest

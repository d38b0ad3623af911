-- One law for each way out, over what was read before it.
use Rattle.std.proofs.Common.{◌*◌}
use Rattle.wire.specs.Into.{told}
use Rattle.wire.specs.Numbers.{numbers-sound}
use Rattle.wire.specs.Openings.{opening-no-rows, opening-no-values, opening-read}
use Rattle.wire.proofs.opening.read_slots.Goals as goal

pub returns-in_err-next : goal.returns-in_err-next
returns-in_err-next c =
    let e = c.from_residual-in_err-next in
    opening-no-rows c.args.bytes.now c.args.at c.read_field.result c.read_field.ensures c.in_ok-count.was c.requires.0 c.requires.1
    e.result c.read_numbers.ensures c.in_err-next.was e.ensures.1

pub returns-in_err-end : goal.returns-in_err-end
returns-in_err-end c =
    let e = c.from_residual-in_err-end in
    opening-no-values c.args.bytes.now c.args.at c.read_field.result c.read_field.ensures c.in_ok-count.was c.requires.0 c.requires.1
    (told (numbers-sound (c.in_ok-count.count * 8) 100) c.in_ok-count.start c.read_numbers.ensures c.in_ok-next.was) e.result
    c.read_numbers-2.ensures c.in_err-end.was e.ensures.1

pub returns : goal.returns
returns c =
    opening-read c.args.bytes.now c.args.at c.read_field.result c.read_field.ensures c.in_ok-count.was c.requires.0 c.requires.1
    (told (numbers-sound (c.in_ok-count.count * 8) 100) c.in_ok-count.start c.read_numbers.ensures c.in_ok-next.was)
    (told (numbers-sound 8 1_000_000) c.in_ok-next.next c.read_numbers-2.ensures c.in_ok-end.was)

-- The number at a slot is refused, or read and put there; or all were read.
use Rattle.std.proofs.Common.{rules, arith, ◌+◌, ◌-◌}
use Rattle.rules.specs.Laws.Readers.{sound-signed}
use Rattle.wire.specs.Into.{more_read, all-read}
use Rattle.wire.specs.Numbers.{stored_refused, stored_more, read-within}
use Rattle.wire.proofs.numbers.read_numbers.Goals as goal

pub returns-in_err-z : goal.returns-in_err-z
returns-in_err-z c =
    let a = c.args in
    let l = c.loop-slot in
    let e = c.from_residual in
    l.invariant.rest _ _ (stored_refused a.bytes.now l.next a.most l.slot (a.first + a.count - l.slot) l.out c.read_signed.ensures
    (omega arith) e.result c.in_err-z.was e.ensures.1)

pub loop-slot-preserved : goal.loop-slot-preserved
loop-slot-preserved c =
    let a = c.args in
    let l = c.loop-slot in
    more_read l.invariant c.loop-slot-test.true (read-within a.bytes.now l.next a.most c.read_signed.ensures c.in_ok-z.was)
    (λ r s i. stored_more a.bytes.now l.next a.most l.slot (a.first + a.count - l.slot) l.out c.read_signed.ensures (omega arith)
    c.in_ok-z.was (search rules) i)

pub returns : goal.returns
returns c = all-read c.loop-slot.invariant (sound-signed c.args.most) c.loop-slot-test.false

-- One law for each answer.
use Rattle.std.proofs.Common.{ap, sym, arith}
use Rattle.fields.specs.Answers.{passed-on, numbered}
use Rattle.wire.specs.Heads.{there, head-no-kind, head-no-job, head-arrive, head-admit, head-set, head-wait, head-leave}
use Rattle.wire.proofs.head.read_head.Goals as goal

pub returns-in_err-number : goal.returns-in_err-number
returns-in_err-number c =
    let e = c.from_residual in
    passed-on e.result _ e.ensures.1 (head-no-kind c.args.bytes.now c.args.at c.if-bytes-at.false c.read_field.result
    c.read_field.ensures c.in_err-number.was)

pub returns-in_err-job : goal.returns-in_err-job
returns-in_err-job c =
    let e = c.from_residual-in_err-job in
    passed-on e.result _ e.ensures.1 (head-no-job c.args.bytes.now c.args.at c.if-bytes-at.false c.read_field.result c.read_field.ensures
    c.in_ok-number.was c.read_below.ensures c.in_err-job.was)

pub returns-in-1 : goal.returns-in-1
returns-in-1 c = head-arrive c.args.bytes.now c.args.at c.if-bytes-at.false c.read_field.result c.read_field.ensures c.in_ok-number.was
    c.read_below.ensures c.in_ok-job.was c.in-1.is

pub returns-in-2 : goal.returns-in-2
returns-in-2 c = head-admit c.args.bytes.now c.args.at c.if-bytes-at.false c.read_field.result c.read_field.ensures c.in_ok-number.was
    c.read_below.ensures c.in_ok-job.was c.in-2.is

pub returns-in_err-read_set-in-3 : goal.returns-in_err-read_set-in-3
returns-in_err-read_set-in-3 c =
    let e = c.from_residual-in_err-read_set-in-3 in
    passed-on e.result _ e.ensures.1
    (head-set c.args.bytes.now c.args.at c.if-bytes-at.false c.read_field.result c.read_field.ensures c.in_ok-number.was
    c.read_below.ensures c.in_ok-job.was c.in-3.is c.read_set.ensures
    (sym (ap (λ r. there (numbered r)) c.in_err-read_set-in-3.was)))

pub returns-in-3 : goal.returns-in-3
returns-in-3 c =
    head-set c.args.bytes.now c.args.at c.if-bytes-at.false c.read_field.result c.read_field.ensures c.in_ok-number.was
    c.read_below.ensures c.in_ok-job.was c.in-3.is c.read_set.ensures
    (sym (ap (λ r. there (numbered r)) c.in_ok-read_set-in-3.was))

pub returns-in-4 : goal.returns-in-4
returns-in-4 c = head-wait c.args.bytes.now c.args.at c.if-bytes-at.false c.read_field.result c.read_field.ensures c.in_ok-number.was
    c.read_below.ensures c.in_ok-job.was c.in-4.is

pub returns-in_default : goal.returns-in_default
returns-in_default c =
    let h = c.in_default in
    head-leave c.args.bytes.now c.args.at c.if-bytes-at.false c.read_field.result c.read_field.ensures c.in_ok-number.was
    c.read_below.ensures c.in_ok-job.was (omega arith) (omega arith) (omega arith) (omega arith)

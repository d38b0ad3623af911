-- One law for each answer.
use Rattle.std.proofs.Common.{rules}
use Rattle.fields.specs.Answers.{passed-on}
use Rattle.wire.specs.Heads.{set-no-value, set-read}
use Rattle.wire.proofs.head.read_set.Goals as goal

pub returns-in_err-value : goal.returns-in_err-value
returns-in_err-value c =
    let e = c.from_residual-in_err-value in
    passed-on e.result _ e.ensures.1 (set-no-value c.args.bytes.now c.args.at c.args.job c.read_below.ensures c.in_ok-variable.was
    c.read_signed.ensures c.in_err-value.was)

pub returns : goal.returns
returns c = set-read c.args.bytes.now c.args.at c.args.job c.read_below.ensures c.in_ok-variable.was c.read_signed.ensures
    c.in_ok-value.was (search rules)

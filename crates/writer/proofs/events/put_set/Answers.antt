-- Head, variable and value, one after the other.
use Rattle.std.proofs.Common.{refl}
use Rattle.rules.specs.Step.{assign}
use Rattle.writer.specs.Puts.{puts_then, puts-signed}
use Rattle.writer.specs.Events.{event-put}
use Rattle.writer.proofs.events.put_set.Goals as goal

pub returns : goal.returns
returns c =
    let a = c.args in
    event-put a.measures (assign a.job a.variable a.value)
    (puts_then c.in_ok-after_head.ensures refl
    (puts_then c.in_ok-after_variable.ensures refl (puts-signed 1_000_000 a.value c.ranges.value.sfits c.put_signed.ensures)))

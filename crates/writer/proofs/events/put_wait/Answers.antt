-- Head, local values and condition, one after the other.
use Rattle.std.proofs.Common.{pos, refl, arith}
use Rattle.rules.specs.Step.{wait}
use Rattle.rules.specs.Writer.{write_value, write_condition}
use Rattle.writer.specs.Puts.{near, puts-stopped, puts_then, all_short, signed-short}
use Rattle.writer.specs.Rows.{whole_as}
use Rattle.writer.specs.Givens.{locals_of, condition_of}
use Rattle.writer.specs.Events.{head-short, event-put}
use Rattle.writer.proofs.events.put_wait.Goals as goal

pub returns-in_err-after_locals : goal.returns-in_err-after_locals
returns-in_err-after_locals c =
    let a = c.args in
    let row = whole_as write_value (pos 0) a.given.now.locals 4 (omega arith) c.in_err-after_locals.ensures in
    event-put a.measures (wait a.job (locals_of a.given.now) (condition_of a.given.now a.count))
    (puts_then c.in_ok-after_head.ensures refl
    (puts-stopped row (write_condition a.measures
    (condition_of a.given.now a.count)) refl c.from_residual-in_err-after_locals.ensures.1))

pub put_condition-requires-clause-fact_1 : goal.put_condition-requires-clause-fact_1
put_condition-requires-clause-fact_1 c =
    let a = c.args in
    let one = c.in_ok-after_head.ensures in
    let two = whole_as write_value (pos 0) a.given.now.locals 4 (omega arith) c.in_ok-after_locals.ensures in
    omega (
      arith,
      c.requires,
      one.long,
      two.long,
      near one 10 (head-short a.measures 4 a.job) refl,
      near two 20 (all_short write_value 5 (signed-short 1_000_000) (locals_of a.given.now)) refl,
    )

pub returns : goal.returns
returns c =
    let a = c.args in
    let row = whole_as write_value (pos 0) a.given.now.locals 4 (omega arith) c.in_ok-after_locals.ensures in
    event-put a.measures (wait a.job (locals_of a.given.now) (condition_of a.given.now a.count))
    (puts_then c.in_ok-after_head.ensures refl (puts_then row refl c.put_condition.ensures))

-- What `read_wait` left in the slots is the condition that the rules read, and `wait` steps with it.
use Rattle.std.proofs.Common.{rules, refl}
use Rattle.event.specs.TakesWait.{tickets-below, takes-no-wait, count-few, wait-small, given-fit, takes-wait}
use Rattle.event.proofs.take_wait.Goals as goal

pub returns-in-Err-clause-takes : goal.returns-in-Err-clause-takes
returns-in-Err-clause-takes c =
    let a = c.args in
    let w = c.read_wait in
    rw c.placed-in-Err.ensures
    (takes-no-wait _ c.requires.kept a.bytes.now a.at _ _ c.requires.head refl w.result w.ensures c.in-Err.is)

pub overflow_cast-count : goal.overflow_cast-count
overflow_cast-count c =
    let a = c.args in
    let w = c.read_wait in
    let few = count-few _ c.requires.kept a.bytes.now a.at _ _ c.requires.head refl w.result w.ensures c.in-Ok.is in
    search rules

pub wait-report-requires-clause-job_bound_1 : goal.wait-report-requires-clause-job_bound_1
wait-report-requires-clause-job_bound_1 c =
    let a = c.args in
    let w = c.read_wait in
    wait-small _ c.requires.kept a.bytes.now a.at _ _ c.requires.head refl w.result w.ensures c.in-Ok.is

pub wait-report-requires-clause-job_bound_2 : goal.wait-report-requires-clause-job_bound_2
wait-report-requires-clause-job_bound_2 c = tickets-below _ c.requires.kept

pub wait-report-requires-clause-given_fit : goal.wait-report-requires-clause-given_fit
wait-report-requires-clause-given_fit c =
    let a = c.args in
    let w = c.read_wait in
    given-fit _ c.requires.kept a.bytes.now a.at _ _ c.requires.head refl w.result w.ensures c.in-Ok.is _

pub returns-in-Ok-clause-takes : goal.returns-in-Ok-clause-takes
returns-in-Ok-clause-takes c =
    let a = c.args in
    let w = c.read_wait in
    let stepped = c.wait-report.ensures.waited in
    rw c.placed.ensures
    (takes-wait _ c.requires.kept a.bytes.now a.at _ _ c.requires.head refl w.result w.ensures c.in-Ok.is refl stepped)

-- One law for each kind of head.
use Rattle.std.proofs.Common.{ap, ◌∙◌, sym, subst, lit<, Ok}
use Rattle.rules.specs.Limits.{value_most}
use Rattle.rules.specs.Laws.Bounds.{Within}
use Rattle.integers.specs.Machine.{is, held}
use Rattle.room.specs.Steps.{own-next}
use Rattle.event.specs.TakesHead.{fixed-store, arrive-small, admit-small, leave-small, set-fits, wait-read}
use Rattle.event.specs.TakesHead.{takes-arrive, takes-admit, takes-set, takes-leave, takes-refused, takes-nothing}
use Rattle.event.proofs.event.Goals as goal

pub returns-in-Ok-None-clause-takes : goal.returns-in-Ok-None-clause-takes
returns-in-Ok-None-clause-takes c =
    let got = c.in-Ok-None.is ∙ ap Ok c.in-Ok-None.field-0-is in
    takes-nothing _ c.requires c.args.bytes.now c.args.at c.read_head.ensures got

pub returns-in-Err-clause-takes : goal.returns-in-Err-clause-takes
returns-in-Err-clause-takes c =
    rw c.placed.ensures (takes-refused _ c.requires c.args.bytes.now c.args.at c.read_head.ensures c.in-Err.is)

pub arrive-requires : goal.arrive-requires
arrive-requires c =
    let got = c.in-Ok-Some.is ∙ ap Ok c.in-Ok-Some.field-0-is in
    arrive-small _ c.requires c.args.bytes.now c.args.at c.read_head.ensures got c.in-Arrive.is

pub returns-in-Arrive-clause-takes : goal.returns-in-Arrive-clause-takes
returns-in-Arrive-clause-takes c =
    let got = c.in-Ok-Some.is ∙ ap Ok c.in-Ok-Some.field-0-is in
    let e = c.arrive.ensures in
    rw c.placed-in-Arrive.ensures
    (takes-arrive _ c.requires c.args.bytes.now c.args.at c.read_head.ensures got c.in-Arrive.is e.0 e.1)

pub admit-requires-clause-job_bound : goal.admit-requires-clause-job_bound
admit-requires-clause-job_bound c =
    let got = c.in-Ok-Some.is ∙ ap Ok c.in-Ok-Some.field-0-is in
    admit-small _ c.requires c.args.bytes.now c.args.at c.read_head.ensures got c.in-Admit.is

pub returns-in-Admit-clause-takes : goal.returns-in-Admit-clause-takes
returns-in-Admit-clause-takes c =
    let got = c.in-Ok-Some.is ∙ ap Ok c.in-Ok-Some.field-0-is in
    let e = c.admit.ensures in
    let stepped = own-next _ _ _ _ e.steps e.fixed.next_ticket in
    rw c.placed-in-Admit.ensures
    (takes-admit _ c.requires c.args.bytes.now c.args.at c.read_head.ensures got c.in-Admit.is stepped (fixed-store e.fixed))

pub assign-report-requires-clause-fact_1 : goal.assign-report-requires-clause-fact_1
assign-report-requires-clause-fact_1 c =
    let got = c.in-Ok-Some.is ∙ ap Ok c.in-Ok-Some.field-0-is in
    (set-fits _ c.requires c.args.bytes.now c.args.at c.read_head.ensures got c.in-Set.is).0

pub assign-report-requires-clause-fact_2 : goal.assign-report-requires-clause-fact_2
assign-report-requires-clause-fact_2 c =
    let got = c.in-Ok-Some.is ∙ ap Ok c.in-Ok-Some.field-0-is in
    (set-fits _ c.requires c.args.bytes.now c.args.at c.read_head.ensures got c.in-Set.is).1

pub assign-report-requires-clause-fact_3 : goal.assign-report-requires-clause-fact_3
assign-report-requires-clause-fact_3 c =
    let got = c.in-Ok-Some.is ∙ ap Ok c.in-Ok-Some.field-0-is in
    let f = set-fits _ c.requires c.args.bytes.now c.args.at c.read_head.ensures got c.in-Set.is in
    subst (Within value_most) (sym (is (held f.2 (lit< tt)))) f.2

pub returns-in-Set-clause-takes : goal.returns-in-Set-clause-takes
returns-in-Set-clause-takes c =
    let got = c.in-Ok-Some.is ∙ ap Ok c.in-Ok-Some.field-0-is in
    let f = set-fits _ c.requires c.args.bytes.now c.args.at c.read_head.ensures got c.in-Set.is in
    let e = c.assign-report.ensures in
    rw c.placed-in-Set.ensures
    (takes-set _ c.requires c.args.bytes.now c.args.at c.read_head.ensures got c.in-Set.is (is (held f.2 (lit< tt))) e.0 e.1)

pub take_wait-requires-clause-head : goal.take_wait-requires-clause-head
take_wait-requires-clause-head c =
    let got = c.in-Ok-Some.is ∙ ap Ok c.in-Ok-Some.field-0-is in
    wait-read _ c.requires c.args.bytes.now c.args.at c.read_head.ensures got c.in-Wait.is

pub leave-requires-clause-job_bound : goal.leave-requires-clause-job_bound
leave-requires-clause-job_bound c =
    let got = c.in-Ok-Some.is ∙ ap Ok c.in-Ok-Some.field-0-is in
    leave-small _ c.requires c.args.bytes.now c.args.at c.read_head.ensures got c.in-Leave.is

pub returns-in-Leave-clause-takes : goal.returns-in-Leave-clause-takes
returns-in-Leave-clause-takes c =
    let got = c.in-Ok-Some.is ∙ ap Ok c.in-Ok-Some.field-0-is in
    let e = c.leave.ensures in
    let stepped = own-next _ _ _ _ e.steps e.fixed.next_ticket in
    rw c.placed-in-Leave.ensures
    (takes-leave _ c.requires c.args.bytes.now c.args.at c.read_head.ensures got c.in-Leave.is stepped (fixed-store e.fixed))

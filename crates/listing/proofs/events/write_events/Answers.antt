-- Each turn writes its event's line, and what is still to come falls; that coefficients and measures stay is what `event` says.
use Rattle.std.proofs.Common.{rules, sym, ◌∙◌, leb-true, leb-false}
use Rattle.listing.specs.Runs.{accepted-less, run-accepts, refused-less, run-refuses, run-stops, run_ends}
use Rattle.listing.proofs.events.write_events.Goals.{in-Ok, in-Err+else-is_last, in-Some+in-Err+then-is_last, in_default}
use Rattle.listing.proofs.events.write_events.Goals as goal

pub loop-taken-smaller : goal.loop-taken-smaller
loop-taken-smaller c = elim c.match-taken.branch [
  | in-Ok w ↦ accepted-less c.loop-taken.invariant.runs c.event.ensures.takes c.in-Some.is w.in-Ok.is
  | in-Err+else-is_last w ↦
      refused-less c.loop-taken.invariant.runs c.event.ensures.takes c.in-Some.is w.in-Err.is
      (leb-false _ 4 (sym w.is_last.ensures ∙ w.if-is_last.false))
]

pub loop-taken-preserved : goal.loop-taken-preserved
loop-taken-preserved c = record {
  runs = elim c.match-taken.branch [
    | in-Ok w ↦
        rw (w.out-is, w.next-is, w.before-is)
        (run-accepts c.loop-taken.invariant.runs c.event.ensures.takes c.in-Some.is w.in-Ok.is w.put_accepted-next.ensures)
    | in-Err+else-is_last w ↦
        rw (w.out-is, w.next-is, w.before-is)
        (run-refuses c.loop-taken.invariant.runs c.event.ensures.takes c.in-Some.is w.in-Err.is
        (leb-false _ 4 (sym w.is_last.ensures ∙ w.if-is_last.false))
        w.put_refused-next.ensures)
  ];
  fixed = search rules;
}

-- a refusal of 1 to 4 is the last event, and any other is not
pub returns-clause-written : goal.returns-clause-written
returns-clause-written c = elim c.match-event.branch [
  | in-Some+in-Err+then-is_last w ↦
      run-stops c.loop-taken.invariant.runs c.event.ensures.takes w.in-Some.is w.in-Err.is
      (leb-true _ 4 (sym w.is_last.ensures ∙ w.if-is_last.true))
      w.put_refused-next.ensures (rw (w.out-is, w.next-is) at c.put_end.ensures)
  | in_default w ↦
      run_ends c.loop-taken.invariant.runs c.event.ensures.takes w.in_default.is (rw (w.out-is, w.next-is) at c.put_end.ensures)
]

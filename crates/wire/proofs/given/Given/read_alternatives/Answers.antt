-- An alternative's count or atoms are refused, or both are read; or all alternatives were.
use Rattle.std.proofs.Common.{rules, arith, ◌+◌, ◌-◌}
use Rattle.rules.specs.Record.{atom}
use Rattle.rules.specs.Laws.WellFormed.{sound-atom, sound-counted}
use Rattle.wire.specs.Into.{more_read, all-read}
use Rattle.wire.specs.Waits.{alternatives-no-count, alternatives-no-atoms, alternatives-more, row_within}
use Rattle.wire.proofs.given.Given.read_alternatives.Goals as goal

pub returns-in_err-atoms-clause-slots : goal.returns-in_err-atoms-clause-slots
returns-in_err-atoms-clause-slots c =
    let a = c.args in
    let l = c.loop-alternative in
    let e = c.from_residual in
    l.invariant.slots.rest _ _ (alternatives-no-count a.measures a.bytes.now l.next l.alternative (0 + a.count - l.alternative)
    c.read_field.result c.read_field.ensures (omega arith) e.result c.in_err-atoms.was e.ensures.1)

pub returns-in_err-next-clause-slots : goal.returns-in_err-next-clause-slots
returns-in_err-next-clause-slots c =
    let a = c.args in
    let l = c.loop-alternative in
    let e = c.from_residual-in_err-next in
    l.invariant.slots.rest _ _ (alternatives-no-atoms a.measures a.bytes.now l.next l.alternative (0 + a.count - l.alternative)
    c.read_field.result c.read_field.ensures (omega arith) c.in_ok-atoms.was c.read_atoms.ensures.atoms e.result
    c.in_err-next.was e.ensures.1)

pub loop-alternative-preserved : goal.loop-alternative-preserved
loop-alternative-preserved c =
    let a = c.args in
    let l = c.loop-alternative in
    let left = 0 + a.count - l.alternative in
    let rows = c.read_atoms.ensures.atoms in
    record {
      slots = more_read l.invariant.slots (omega arith) (row_within a.measures a.bytes.now l.next l.alternative left c.read_field.result
          c.read_field.ensures (omega arith) c.in_ok-atoms.was rows c.in_ok-next.was)
          (λ r s i. alternatives-more a.measures a.bytes.now l.next l.alternative left c.read_field.result c.read_field.ensures
          (omega arith) c.in_ok-atoms.was rows c.in_ok-next.was c.read_atoms.ensures.rest.1 i);
      rest = search rules;
    }

pub returns-clause-slots : goal.returns-clause-slots
returns-clause-slots c = let m = c.args.measures in all-read c.loop-alternative.invariant.slots (sound-counted (atom m) (sound-atom m))
    (omega arith)

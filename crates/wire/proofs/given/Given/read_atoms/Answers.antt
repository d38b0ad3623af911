-- The atom at a slot is refused, or read into it.
use Rattle.std.proofs.Common.{rules, arith, ◌+◌, ◌-◌}
use Rattle.wire.specs.Into.{more_read}
use Rattle.wire.specs.Waits.{atoms-no, atoms-more, atom-within}
use Rattle.wire.proofs.given.Given.read_atoms.Goals as goal

pub returns-in_err-next-clause-atoms : goal.returns-in_err-next-clause-atoms
returns-in_err-next-clause-atoms c =
    let a = c.args in
    let l = c.loop-slot in
    let e = c.from_residual in
    l.invariant.atoms.rest _ _ (atoms-no a.measures a.bytes.now l.next l.slot (a.first + a.count - l.slot) c.read_atom.ensures.atoms
    (omega arith) e.result c.in_err-next.was e.ensures.1)

pub loop-slot-preserved : goal.loop-slot-preserved
loop-slot-preserved c =
    let a = c.args in
    let l = c.loop-slot in
    let one = c.read_atom.ensures.atoms in
    record {
      atoms = more_read l.invariant.atoms c.loop-slot-test.true (atom-within a.measures a.bytes.now l.next l.slot one c.in_ok-next.was)
          (λ r s i. atoms-more a.measures a.bytes.now l.next l.slot (a.first + a.count - l.slot) one (omega arith) c.in_ok-next.was i);
      rest = search rules;
    }

-- The atoms so far.
use Rattle.std.proofs.Common.{◌≡◌}
use Rattle.rules.specs.Record.{atom}
use Rattle.wire.specs.Givens.{atoms_of_given}
use Rattle.wire.specs.Into.{SoFar}
use Rattle.wire.specs.WaitSlots.{put_atom}
use Rattle.wire.proofs.given.Given.read_atoms.Given as goal

abbrev pub invariant-loop-slot : goal.invariant-loop-slot
invariant-loop-slot l = record {
  atoms : SoFar (atom l.measures) put_atom l.bytes l.at l.first l.count (atoms_of_given l.initial.self) l.next l.slot
      (atoms_of_given l.self);
  rest : (l.self.locals ≡ l.initial.self.locals) × (l.self.counts ≡ l.initial.self.counts);
}

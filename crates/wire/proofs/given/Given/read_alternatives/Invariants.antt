-- The alternatives so far.
use Rattle.std.proofs.Common.{◌≡◌}
use Rattle.rules.specs.Record.{atom, counted}
use Rattle.wire.specs.Givens.{slots_of_given}
use Rattle.wire.specs.Into.{SoFar}
use Rattle.wire.specs.WaitSlots.{put_alternative}
use Rattle.wire.proofs.given.Given.read_alternatives.Given as goal

abbrev pub invariant-loop-alternative : goal.invariant-loop-alternative
invariant-loop-alternative l = record {
  slots : SoFar (counted (atom l.measures)) put_alternative l.bytes l.at 0 l.count (slots_of_given l.initial.self) l.next l.alternative
      (slots_of_given l.self);
  rest : l.self.locals ≡ l.initial.self.locals;
}

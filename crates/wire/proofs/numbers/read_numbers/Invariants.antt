-- The numbers so far.
use Rattle.rules.specs.Number.{signed_field}
use Rattle.wire.specs.Into.{SoFar}
use Rattle.wire.specs.Numbers.{put_number}
use Rattle.wire.proofs.numbers.read_numbers.Given as goal

abbrev pub invariant-loop-slot : goal.invariant-loop-slot
invariant-loop-slot l = SoFar (signed_field l.most) put_number l.bytes l.at l.first l.count l.initial.out l.next l.slot l.out

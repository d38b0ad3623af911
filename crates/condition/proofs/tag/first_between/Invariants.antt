-- `first_between` meets its contract: no slot passed has such an operator.
use Rattle.std.proofs.Common.{◌≡◌, ◌+◌}
use Rattle.condition.specs.Tags.{first_at, between, first_left}
use Rattle.condition.proofs.tag.first_between.Given as goal

abbrev pub invariant-loop-slot : goal.invariant-loop-slot
invariant-loop-slot l =
    first_left l.operator l.low l.high (l.first + l.count) l.slot
    ≡ first_at (between l.operator l.low l.high) l.count l.first

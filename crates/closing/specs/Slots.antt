-- A Wait's slots as closure takes them: its alternative count, and what the reader's struct holds.
use Rattle.std.specs.Prelude.{ℕ}
use Rattle.wire.specs.declared.given.Given.{Given}
use Rattle.condition.specs.Closing.{GivenSlots, given_slots}

abbrev pub given_of : ℕ → Given → GivenSlots
given_of count g = given_slots count g.counts g.measure g.operator g.coefficients g.constant g.locals

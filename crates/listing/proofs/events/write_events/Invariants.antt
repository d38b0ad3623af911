-- What is still to be written, after what is written, comes to the whole; coefficients and measures are those lent, since each event leaves
-- them; and what is left of the input falls with each event.
use Rattle.std.proofs.Common.{◌≡◌, length, drop}
use Rattle.room.specs.Rooms.{arrays_of}
use Rattle.listing.specs.Output.{output}
use Rattle.listing.specs.Turns.{lines_from}
use Rattle.listing.specs.Runs.{Running}
use Rattle.listing.proofs.events.write_events.Given as goal

abbrev pub invariant-loop-taken : goal.invariant-loop-taken
invariant-loop-taken l = record {
  runs : Running (output l.fn.out l.fn.at) (lines_from l.input l.from 1 0 (arrays_of l.fn.room))
      (output l.out l.next) l.input l.place l.number l.before (arrays_of l.room);
  fixed : (l.room.shared.coefficients ≡ l.fn.room.shared.coefficients) × (l.room.measures ≡ l.fn.room.measures);
}

abbrev pub decreases-loop-taken : goal.decreases-loop-taken
decreases-loop-taken l = length (drop l.place l.input)

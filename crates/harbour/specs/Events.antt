-- One event, given to a host's room with a tally: report, room and tally after it are the rules'. It is what the contract of `harbour_event` says.
use Rattle.std.specs.Prelude.{◌≡◌, List, ℕ}
use Rattle.std.proofs.Common.{ap, ◌∙◌}
use Rattle.rules.specs.Step.{accepted, refusal, nothing}
use Rattle.rules.specs.Step as rules
use Rattle.rules.specs.Record.{event}
use Rattle.rules.specs.Tally.{take, note}
use Rattle.rules.specs.Tally as steps
use Rattle.fields.specs.Answers.{place_of}
use Rattle.tally.specs.Added.{tally_of}
use Rattle.tally.specs.declared.Tally.{Tally}
use Rattle.room.specs.declared.room.Room.{Room}
use Rattle.room.specs.Stores.{store_of, store_after}
use Rattle.room.specs.Kept.{Kept}
use Rattle.harbour.specs.Rooms.{arrays_of, meaning, one-room}
use Rattle.harbour.specs.Reports.{host_report, report_of, Same, Reports}
use Rattle.harbour.specs.Tallies.{noted_tally}
use Rattle.harbour.specs.declared.report.Report.{Report}

-- the rules' step, given these bytes
abbrev pub step_of : Room → List ℕ → steps.Taken
step_of room bytes = take (meaning room) bytes

pub record EventTaken (room room' : Room) (tally tally' : Tally) (bytes : List ℕ) (r : Report) : Type 0 where
  pub report : r ≡ host_report (step_of room bytes).result.report (place_of bytes (step_of room bytes).rest)
  pub means : report_of r ≡ (step_of room bytes).result.report
  pub room_after : meaning room' ≡ (step_of room bytes).result.room
  -- what the arrays hold beside it: of two rooms that this allows, nodes stand elsewhere inside their heaps, and that is all (`Alike.antt`)
  pub store-after : store_of (arrays_of room') ≡ store_after (arrays_of room) (event room.measures bytes) (step_of room bytes).result.report
  pub tally-after : tally_of tally' ≡ note (step_of room bytes).result.report (tally_of tally)
  pub kept : Kept (arrays_of room')
  pub same : Same (step_of room bytes).result.report room room'

same-room : (x : rules.Report) (room room' : Room) → Same x (arrays_of room) (arrays_of room') → Same x room room'
same-room (accepted o c n) room room' s = tt
same-room (refusal k) room room' s = one-room room' room s
same-room nothing room room' s = one-room room' room s

-- what `take_event` and `note` promise
pub event-taken : {room room' : Room} {tally tally' : Tally} {bytes : List ℕ} {r : Report} → Reports (arrays_of room) (arrays_of room') bytes r → tally' ≡ noted_tally tally r → EventTaken room room' tally tally' bytes r
event-taken {room} {room'} {tally} {tally'} {bytes} {r} k e = record {
  report = k.report;
  means = k.means;
  room_after = k.room;
  store-after = k.store;
  tally-after = ap tally_of e ∙ ap (λ x. note x (tally_of tally)) k.means;
  kept = k.kept;
  same = same-room (step_of room bytes).result.report room room' k.same;
}

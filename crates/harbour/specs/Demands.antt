-- The three demands, for the code: from any accepted opening, after any byte strings given as events, in any order, refused ones among them. What is
-- said of a host's room and tally is what the contracts of `harbour_open` and `harbour_event` say of them; beside this file a reader needs the rules.
use Rattle.std.specs.Prelude.{◌≡◌, refl, List, [], ◌∷◌, ◌↔◌, pos, length, replicate, ℕ, Ok}
use Rattle.std.proofs.Common.{sym, ap, ◌∙◌, subst}
use Rattle.std.proofs.Math.Option.{none, some}
use Rattle.rules.specs.Number.{Read, read, refused}
use Rattle.rules.specs.Room.{now, no_room}
use Rattle.rules.specs.Room as rules
use Rattle.rules.specs.Search.{evaluated}
use Rattle.rules.specs.Step.{Event, refusal, nothing, called_in, count_in, step}
use Rattle.rules.specs.Record.{opening, event}
use Rattle.rules.specs.Tally.{take, taken, note}
use Rattle.rules.specs.Tally as steps
use Rattle.rules.specs.Laws.In.{none-some}
use Rattle.rules.specs.Laws.Waiting.{waiters_of}
use Rattle.rules.specs.Demands.Answers.{Answers}
use Rattle.rules.proofs.Demands.Answers.{every-event-is-answered}
use Rattle.rules.specs.Demands.Calls.{NoneTrue}
use Rattle.rules.specs.Demands.Searches.{CalledTruly, Searches}
use Rattle.rules.proofs.Demands.Searches.{step-calls-truly, search-reports, search-calls-nobody-exactly}
use Rattle.rules.specs.Demands.Relay.{Relay}
use Rattle.rules.specs.Demands.Reached.{room_after, Reached}
use Rattle.rules.proofs.Demands.Reached.{reached-relay}
use Rattle.condition.specs.Slots.{closed_of}
use Rattle.index.specs.Structs.{IsIndex}
use Rattle.fields.specs.Answers.{place_of}
use Rattle.wire.specs.Openings.{as_opening, coefficients_of, values_of}
use Rattle.tally.specs.Added.{tally_of, tally_of-one}
use Rattle.tally.specs.declared.Tally.{Tally}
use Rattle.room.specs.declared.room.Room.{Room}
use Rattle.room.specs.Arrays.{room_of}
use Rattle.room.specs.Kept.{Kept}
use Rattle.opening.specs.Opens.{empty_with, opened-means, room-of-empty}
use Rattle.event.specs.Takes.{take-read, measures-many}
use Rattle.harbour.specs.Alike.{Alike, alike}
use Rattle.harbour.specs.Rooms.{arrays_of, meaning}
use Rattle.harbour.specs.Openings.{OpensRoom, opened_numbers, told_opening}
use Rattle.harbour.specs.Reports.{host_report, report_of, Same}
use Rattle.harbour.specs.Events.{EventTaken, step_of}
use Rattle.harbour.specs.declared.report.Opened.{Opened}
use Rattle.harbour.specs.declared.report.Report.{Report}

-- ---- demand 1, of an opening: a room, or a numbered refusal and a room of which every number is 0 and every job outside
module _ {bytes : List ℕ} {r : Opened} {room : Room} (said : OpensRoom bytes r (arrays_of room)) where
  -- of the reading that the bytes are, what is told and what is left
  told-as : {x : Read rules.Room} → opening bytes ≡ x →
      (r ≡ told_opening (as_opening bytes x)) × (arrays_of room ≡ empty_with (coefficients_of x) (values_of x) (told_opening (as_opening bytes x)).measures)
  told-as {x} e =
      let t = said.tells ∙ ap (λ y. told_opening (as_opening bytes y)) e in
      (t, said.opens ∙ (λ i. empty_with (coefficients_of (e i)) (values_of (e i)) (t i).measures))

  pub code-opens : (start : rules.Room) (rest : List ℕ) → opening bytes ≡ read start rest →
      (r ≡ opened_numbers 0 (length start.measures) (place_of bytes rest)) × (meaning room ≡ start) × Kept (arrays_of room)
  code-opens start rest e =
      let t = told-as e in
      let a = t.1 ∙ (λ i. empty_with (coefficients_of (sym e i)) (values_of (sym e i)) (length start.measures)) in
      let m = opened-means bytes (Ok (length start.measures, place_of bytes rest)) (arrays_of room) (sym (ap (as_opening bytes) e), a) start rest e in
      (t.0, m.1, m.2)

  pub code-refuses-to-open : (k : ℕ) → opening bytes ≡ refused k →
      (r ≡ opened_numbers k 0 0) × (arrays_of room ≡ empty_with (replicate 128 (pos 0)) (replicate 8 (pos 0)) 0) × (meaning room ≡ no_room)
  code-refuses-to-open k e = let t = told-as e in (t.0, t.1, ap room_of t.1 ∙ room-of-empty (replicate 128 (pos 0)) (replicate 8 (pos 0)) 0)

-- ---- a run of the code
-- `harbour_open` was given these bytes and accepted them: this is the room that it left
pub record Started (bytes : List ℕ) (room : Room) : Type 0 where
  pub answer : Opened
  pub said : OpensRoom bytes answer (arrays_of room)
  pub start : rules.Room
  pub rest : List ℕ
  pub accepted : opening bytes ≡ read start rest

-- `harbour_event` was given these byte strings, one after the other, and made of room and tally what they are now
pub data Run : Room → Tally → List (List ℕ) → Room → Tally → Type 0 where
  none-given : {room : Room} {tally : Tally} → Run room tally [] room tally
  given : {room room' room'' : Room} {tally tally' tally'' : Tally} {bytes : List ℕ} {more : List (List ℕ)} {r : Report} → EventTaken room room' tally tally' bytes r → Run room' tally' more room'' tally'' →
      Run room tally (bytes ∷ more) room'' tally''

-- the rules' tally after these byte strings
abbrev pub tallied : rules.Room → List (List ℕ) → steps.Tally → steps.Tally
tallied r [] t = t
tallied r (bytes ∷ more) t = tallied (take r bytes).result.room more (note (take r bytes).result.report t)

-- ---- what the rules say of a step, of bytes
taken-calls-truly : (r : rules.Room) (bytes : List ℕ) (x : Read Event) (j : ℕ) → called_in (taken r bytes x).result.report ≡ some j → CalledTruly r (taken r bytes x).result.room j
taken-calls-truly r bytes (read e rest) j d = step-calls-truly r e j d
taken-calls-truly r bytes (refused n) j d = absurd (none-some d)

take-calls-truly : (r : rules.Room) (bytes : List ℕ) (j : ℕ) → called_in (take r bytes).result.report ≡ some j → CalledTruly r (take r bytes).result.room j
take-calls-truly r [] j d = absurd (none-some d)
take-calls-truly r (b ∷ bytes) j d = taken-calls-truly r (b ∷ bytes) (event (length r.measures) (b ∷ bytes)) j d

-- what an event's answer says of the room after it, and of the tally
abbrev RoomsAfter : Type 0
RoomsAfter = (room room' : Room) (tally tally' : Tally) (bytes : List ℕ) (r : Report) → EventTaken room room' tally tally' bytes r → meaning room' ≡ (step_of room bytes).result.room

abbrev TalliesAfter : Type 0
TalliesAfter = (room room' : Room) (tally tally' : Tally) (bytes : List ℕ) (r : Report) → EventTaken room room' tally tally' bytes r → tally_of tally' ≡ note (step_of room bytes).result.report (tally_of tally)

-- Whatever says it so of each event says it of a run. The theorems below hand it over, each for itself, so each falls by itself where an event's
-- answer is edited.
run-after-by : RoomsAfter → {room room' : Room} {tally tally' : Tally} {events : List (List ℕ)} → Run room tally events room' tally' → room_after (meaning room) events ≡ meaning room'
run-after-by after none-given = refl
run-after-by after (given {more = more} t u) = ap (λ r. room_after r more) (sym (after _ _ _ _ _ _ t)) ∙ run-after-by after u

run-after : {room room' : Room} {tally tally' : Tally} {events : List (List ℕ)} → Run room tally events room' tally' → room_after (meaning room) events ≡ meaning room'
run-after = run-after-by (λ room room' tally tally' bytes r t. t.room_after)

run-kept : {room room' : Room} {tally tally' : Tally} {events : List (List ℕ)} → Kept (arrays_of room) → Run room tally events room' tally' → Kept (arrays_of room')
run-kept k none-given = k
run-kept k (given t u) = run-kept t.kept u

run-tally-by : RoomsAfter → TalliesAfter → {room room' : Room} {tally tally' : Tally} {events : List (List ℕ)} → Run room tally events room' tally' → tally_of tally' ≡ tallied (meaning room) events (tally_of tally)
run-tally-by after counted none-given = refl
run-tally-by after counted (given {more = more} t u) = run-tally-by after counted u ∙ (λ i. tallied (after _ _ _ _ _ _ t i) more (counted _ _ _ _ _ _ t i))

run-tally : {room room' : Room} {tally tally' : Tally} {events : List (List ℕ)} → Run room tally events room' tally' → tally_of tally' ≡ tallied (meaning room) events (tally_of tally)
run-tally = run-tally-by (λ room room' tally tally' bytes r t. t.room_after) (λ room room' tally tally' bytes r t. t.tally-after)

module _ {opened : List ℕ} {first room : Room} {first-tally tally : Tally} {events : List (List ℕ)} (o : Started opened first) (run : Run first first-tally events room tally) where
  -- the rules' room came from an accepted opening and events, and the arrays keep what they keep: all that `harbour_event` asks
  reached-by : RoomsAfter → Reached (meaning room)
  reached-by after = record {
    opening-bytes = opened;
    start = o.start;
    rest = o.rest;
    opens = o.accepted;
    events = events;
    came = ap (λ r. room_after r events) (sym (code-opens o.said o.start o.rest o.accepted).1) ∙ run-after-by after run;
  }

  pub code-reached : Reached (meaning room)
  code-reached = reached-by (λ room room' tally tally' bytes r t. t.room_after)

  pub code-kept : Kept (arrays_of room)
  code-kept = run-kept (code-opens o.said o.start o.rest o.accepted).2 run

  -- the tally has counted every event of the run, as the rules count
  pub code-tally : tally_of tally ≡ tallied o.start events (tally_of first-tally)
  code-tally = run-tally-by (λ room room' tally tally' bytes r t. t.room_after) (λ room room' tally tally' bytes r t. t.tally-after) run ∙ ap (λ r. tallied r events (tally_of first-tally)) (code-opens o.said o.start o.rest o.accepted).1

  -- ---- whatever bytes come next
  module _ {room' : Room} {tally' : Tally} {bytes : List ℕ} {r : Report} (t : EventTaken room room' tally tally' bytes r) where
    -- demand 1: an answer or a numbered refusal; and a refused event, and none left, change nothing lent
    pub code-answers : Answers (meaning room) bytes (meaning room') (step_of room bytes).rest (report_of r)
    code-answers =
        subst (λ q. Answers (meaning room) bytes q (step_of room bytes).rest (report_of r)) (sym t.room_after)
        (subst (Answers (meaning room) bytes (step_of room bytes).result.room (step_of room bytes).rest) (sym t.means) (every-event-is-answered (meaning room) bytes))

    pub code-refused-changes-nothing : (k : ℕ) → report_of r ≡ refusal k → (room' ≡ room) × (tally' ≡ tally)
    code-refused-changes-nothing k e =
        let x = sym t.means ∙ e in
        (subst (λ u. Same u room room') x t.same, tally_of-one tally' tally (t.tally-after ∙ ap (λ u. note u (tally_of tally)) x))

    pub code-nothing-changes-nothing : report_of r ≡ nothing → (room' ≡ room) × (tally' ≡ tally)
    code-nothing-changes-nothing e =
        let x = sym t.means ∙ e in
        (subst (λ u. Same u room room') x t.same, tally_of-one tally' tally (t.tally-after ∙ ap (λ u. note u (tally_of tally)) x))

    -- demand 2: report, room and tally are the step machine's
    pub code-report : r ≡ host_report (step_of room bytes).result.report (place_of bytes (step_of room bytes).rest)
    code-report = t.report

    pub code-room : meaning room' ≡ (step_of room bytes).result.room
    code-room = t.room_after

    pub code-notes : tally_of tally' ≡ note (step_of room bytes).result.report (tally_of tally)
    code-notes = t.tally-after

    -- .. a job is called only when its condition, with its own numbers filled in, is true
    pub code-calls-truly : (j : ℕ) → called_in (report_of r) ≡ some j → CalledTruly (meaning room) (meaning room') j
    code-calls-truly j d = subst (λ q. CalledTruly (meaning room) q j) (sym t.room_after) (take-calls-truly (meaning room) bytes j (ap called_in (sym t.means) ∙ d))

    -- .. an event that searches calls nobody exactly if no waiting job's condition is true, and reports the rules' count
    module _ {e : Event} {rest : List ℕ} (reads : event room.measures bytes ≡ read e rest) where
      is-step : step_of room bytes ≡ record { result = step (meaning room) e; rest = rest }
      is-step = take-read (meaning room) bytes (ap (λ n. event n bytes) (measures-many (arrays_of room)) ∙ reads)

      report-is : report_of r ≡ (step (meaning room) e).report
      report-is = t.means ∙ ap (λ (u : steps.Taken). u.result.report) is-step

      pub code-calls-nobody-exactly : Searches (meaning room) e → (called_in (report_of r) ≡ none) ↔ NoneTrue (meaning room)
      code-calls-nobody-exactly s = subst (λ u. (called_in u ≡ none) ↔ NoneTrue (meaning room)) (sym report-is) (search-calls-nobody-exactly s)

      pub code-counts : Searches (meaning room) e → count_in (report_of r) ≡ evaluated (now (meaning room)) (waiters_of (meaning room))
      code-counts s = ap count_in report-is ∙ (search-reports s).1

  -- ---- demand 3: what holds between events
  pub code-relay : Relay (meaning room)
  code-relay = reached-relay (reached-by (λ room room' tally tally' bytes r t. t.room_after))

  -- each distinct waiting condition once, with exactly its jobs, and its alternatives once under their tag
  pub code-index : IsIndex (closed_of room.conditions) room.ticket room.index
  code-index = code-kept.sound.index

-- ---- any two answers that the contracts allow are the same, number by number, but for the places of nodes inside their heaps
pub one-opening : {bytes : List ℕ} {r s : Opened} {room room' : Room} → OpensRoom bytes r (arrays_of room) → OpensRoom bytes s (arrays_of room') → (r ≡ s) × (arrays_of room ≡ arrays_of room')
one-opening {bytes} a b =
    let t = a.tells ∙ sym b.tells in
    (t, a.opens ∙ (λ i. empty_with (coefficients_of (opening bytes)) (values_of (opening bytes)) (t i).measures) ∙ sym b.opens)

pub one_answer : {room room' room'' : Room} {tally tally' tally'' : Tally} {bytes : List ℕ} {r s : Report} → EventTaken room room' tally tally' bytes r → EventTaken room room'' tally tally'' bytes s →
    (r ≡ s) × (tally' ≡ tally'') × Alike room' room''
one_answer {room' = room'} {room''} a b =
    (a.report ∙ sym b.report, tally_of-one _ _ (a.tally-after ∙ sym b.tally-after), alike room' room'' a.kept b.kept (a.room_after ∙ sym b.room_after) (a.store-after ∙ sym b.store-after))

-- "What it writes, the reader reads back as the same record; what the reader accepts and the writer writes again is the same bytes" (document 02, §1).
use Rattle.std.specs.Prelude.{◌≡◌, true, ◌&&◌, List, ◌++◌, ℕ, ◌≤◌, leb, if◌then◌else◌}
use Rattle.std.proofs.Common.{ap, ◌∙◌, arith, leb-true, le-leb}
use Rattle.rules.specs.Limits.{measures_most}
use Rattle.rules.specs.Number.{read}
use Rattle.rules.specs.Room.{Room}
use Rattle.rules.specs.Step.{Event}
use Rattle.rules.specs.Record.{opening, event}
use Rattle.rules.specs.Writer.{written, unwritten, write_fields, write_event, write_opening}
use Rattle.rules.specs.Laws.Bounds.{Each}
use Rattle.rules.specs.Laws.In.{both}
use Rattle.rules.specs.Laws.Groups.{Byte}
use Rattle.rules.specs.Laws.Halves.{written-if}
use Rattle.rules.specs.Laws.Written.{OpeningShape}
use Rattle.rules.proofs.Laws.Written.{halves-opening}
use Rattle.rules.specs.Laws.WrittenEvents.{EventShape}
use Rattle.rules.proofs.Laws.WrittenEvents.{halves-event}
use Rattle.rules.specs.Demands.Writes.{Again}

pub opening-reads-back : (r : Room) → OpeningShape r → (l : List ℕ) → write_opening r.measures r.values ≡ written l → (rest : List ℕ) → opening (l ++ rest) ≡ read r rest
opening-reads-back = halves-opening.back

pub opening-written-again : (bytes : List ℕ) → Each Byte bytes → (r : Room) (rest : List ℕ) → opening bytes ≡ read r rest → Again (write_opening r.measures r.values) bytes rest
opening-written-again bytes each r rest d = let s = halves-opening.stood bytes each r rest d in (s.front, s.writes, s.is)

module _ (measures : ℕ) where
  pub event-reads-back : (e : Event) → EventShape e → (l : List ℕ) → write_event measures e ≡ written l → (rest : List ℕ) → event measures (l ++ rest) ≡ read e rest
  event-reads-back e s l d rest =
      let w = written-if (leb 1 measures && leb measures measures_most) 4 (write_fields measures e) d in
      let few = leb-true measures measures_most (both (leb 1 measures) (leb measures measures_most) w.0).1 in
      (halves-event measures (omega (arith, few))).back e s l w.1 rest

  pub event-written-again : 1 ≤ measures → measures ≤ measures_most → (bytes : List ℕ) → Each Byte bytes → (e : Event) (rest : List ℕ) → event measures bytes ≡ read e rest → Again (write_event measures e) bytes rest
  event-written-again some few bytes each e rest d =
      let s = (halves-event measures (omega (arith, few))).stood bytes each e rest d in
      let good : (leb 1 measures && leb measures measures_most) ≡ true = (λ i. le-leb 1 measures some i && le-leb measures measures_most few i) in
      (s.front, ap (λ t. if t then write_fields measures e else unwritten 4) good ∙ s.writes, s.is)

-- An event taken from bytes at a place is the rules' `take` of the bytes from there on, if its function steps as the rules do. The rules' invariant is kept
-- by `take`, and so by the arrays that are its room.
use Rattle.std.specs.Prelude.{◌≡◌, refl, List, [], ◌∷◌, ℕ, ◌≤◌, length, drop, Option, None, Err}
use Rattle.std.proofs.Common.{sym, ap, ◌∙◌, subst, arith, drop_of_length-le}
use Rattle.rules.specs.Laws.Cases.{by_lt}
use Rattle.rules.specs.Number.{read, refused}
use Rattle.rules.specs.Room.{Room}
use Rattle.rules.specs.Step.{Event, refuse, step}
use Rattle.rules.specs.Step as rules
use Rattle.rules.specs.Record.{event}
use Rattle.rules.specs.Tally.{taken, take}
use Rattle.rules.specs.Tally as tally
use Rattle.rules.specs.Laws.Readers.{read-refused}
use Rattle.rules.specs.Laws.WellFormed.{EventFits, sound-event}
use Rattle.rules.specs.Demands.Invariant.{Invariant}
use Rattle.rules.proofs.Demands.Reached.{take-keeps}
use Rattle.condition.specs.From.{from-many}
use Rattle.room.specs.Arrays.{Arrays, measure_row, room_of}
use Rattle.room.specs.Stores.{store_of, store_after}
use Rattle.room.specs.Kept.{Sound, Kept}
use Rattle.fields.specs.Refusals.{refusal_number}
use Rattle.fields.specs.declared.refusal.Refusal.{Refusal}
use Rattle.room.specs.Reports.{Report, meaning}
use Rattle.room.specs.Steps.{Stepped}
use Rattle.event.specs.Answers.{taken_report, LeftAt, placed, Unchanged, PlainTaken}
use Rattle.event.specs.declared.Taken.{Taken}

-- b is what the event at this place makes of a, with this report
pub record Takes (a b : Arrays) (bytes : List ℕ) (at : ℕ) (r : Option Taken) : Type 0 where
  pub report : taken_report r ≡ (take (room_of a) (drop at bytes)).result.report
  pub room : room_of b ≡ (take (room_of a) (drop at bytes)).result.room
  -- and what the arrays hold beside it: so nothing is open but how nodes stand inside their heaps
  pub store : store_of b ≡ store_after a (event a.measures (drop at bytes)) (take (room_of a) (drop at bytes)).result.report
  pub rest : LeftAt bytes (take (room_of a) (drop at bytes)).rest r
  pub kept : Kept b
  pub same : Unchanged a b r
  pub plain : PlainTaken r

-- ---- `take`, by what is read
pub take-read : (r : Room) (left : List ℕ) {e : Event} {rest : List ℕ} → event (length r.measures) left ≡ read e rest → take r left ≡ record { result = step r e; rest = rest }
take-read r [] d = read-refused (sym d)
take-read r (b ∷ left) d = ap (taken r (b ∷ left)) d

pub take-refused : (r : Room) (left : List ℕ) {k : ℕ} → (left ≡ [] → ⊥) → event (length r.measures) left ≡ refused k → take r left ≡ record { result = refuse r k; rest = left }
take-refused r [] some d = absurd (some refl)
take-refused r (b ∷ left) some d = ap (taken r (b ∷ left)) d

take-nothing : (r : Room) (left : List ℕ) → left ≡ [] → take r left ≡ record { result = record { room = r; report = rules.nothing }; rest = [] }
take-nothing r left e = ap (take r) e

pub measures-many : (a : Arrays) → length (room_of a).measures ≡ a.measures
measures-many a = from-many (measure_row a.coefficients) a.measures 0

-- ---- over arrays that keep what they keep
module _ (a : Arrays) (k : Kept a) (bytes : List ℕ) (at : ℕ) where
  abbrev left : List ℕ
  left = drop at bytes

  kept-after : (b : Arrays) → Sound b → room_of b ≡ (take (room_of a) left).result.room → Kept b
  kept-after b s e = record { sound = s; invariant = subst Invariant (sym e) (take-keeps (room_of a) left k.invariant) }

  pub by-take : {b : Arrays} {r : Option Taken} {t : tally.Taken} → take (room_of a) left ≡ t → Sound b → taken_report r ≡ t.result.report →
      room_of b ≡ t.result.room →
      store_of b ≡ store_after a (event a.measures left) t.result.report → LeftAt bytes t.rest r → Unchanged a b r → PlainTaken r → Takes a b bytes at r
  by-take {b} {r} {t} e s p q held l o n =
      let room : room_of b ≡ (take (room_of a) left).result.room = q ∙ ap (λ (u : tally.Taken). u.result.room) (sym e) in
      record {
        report = p ∙ ap (λ (u : tally.Taken). u.result.report) (sym e);
        room = room;
        store = held ∙ ap (λ (u : tally.Taken). store_after a (event a.measures left) u.result.report) (sym e);
        rest = subst (λ (u : tally.Taken). LeftAt bytes u.rest r) (sym e) l;
        kept = kept-after b s room;
        same = o;
        plain = n;
      }

  -- an event was read, and its function steps as the rules do
  pub by-step : {b : Arrays} {e : Event} {w : Report} {next : ℕ} → Stepped a b e w →
      store_of b ≡ store_after a (read e (drop next bytes)) (meaning w) → event a.measures left ≡ read e (drop next bytes) →
      next ≤ length bytes → Takes a b bytes at (placed w next)
  by-step s held d h =
      by-take (take-read (room_of a) left (ap (λ n. event n left) (measures-many a) ∙ d)) s.sound s.report s.room
      (held ∙ (λ i. store_after a (sym d i) (s.report i)))
      (refl, h) s.same s.plain

  -- no event was read
  pub by-refusal : {c : Refusal} → (left ≡ [] → ⊥) → event a.measures left ≡ refused (refusal_number c) →
      Takes a a bytes at (placed (Err c) at)
  by-refusal {c} some d =
      by-take (take-refused (room_of a) left some (ap (λ m. event m left) (measures-many a) ∙ d)) k.sound refl refl
      (ap (λ x. store_after a x (rules.refusal (refusal_number c))) (sym d))
      (refl, by_lt at (length bytes) (λ h. omega (arith, h)) (λ h. absurd (some (drop_of_length-le bytes {i = at} h)))) (λ j e. refl) tt

  pub by-nothing : left ≡ [] → Takes a a bytes at None
  by-nothing e = by-take (take-nothing (room_of a) left e) k.sound refl refl (ap (λ l. store_after a (event a.measures l) rules.nothing) (sym e)) refl refl tt

  pub event-fits : {e : Event} {rest : List ℕ} → event a.measures left ≡ read e rest → EventFits a.measures e
  event-fits {e} {rest} d = ((sound-event a.measures).gives left e rest d).0

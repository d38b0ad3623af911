-- Demand 1: every byte string gets an answer or a numbered refusal, and a refused event, like one of which no byte is left, gives back
-- the same room and tally. A reader refuses with 1 to 4 and has then taken nothing; a step refuses with 5 to 7 and hands its room out.
use Rattle.std.specs.Prelude.{◌≡◌, refl, ◌⊎◌, List, [], ◌∷◌, ℕ, ◌≤◌, length}
use Rattle.std.proofs.Common.{ap, inl, inr, arith}
use Rattle.rules.specs.Number.{Read, read, refused}
use Rattle.rules.specs.Room.{Room}
use Rattle.rules.specs.Step.{Event, Step, Report, accepted, refusal, nothing}
use Rattle.rules.specs.Record.{opening, event}
use Rattle.rules.specs.Tally.{Tally, note, taken, take}
use Rattle.rules.specs.Laws.Readers.{Took}
use Rattle.rules.specs.Laws.WellFormed.{sound-opening, sound-event}
use Rattle.rules.specs.Laws.Moves as moves
use Rattle.rules.proofs.Laws.Moves.{step-moves}
use Rattle.rules.specs.Demands.Answers.{Answers, OpeningAnswered}

answers-step : {r : Room} {e : Event} {s : Step} (bytes rest : List ℕ) → Took 2 bytes rest → moves.Move r e s → Answers r bytes s.room rest s.report
answers-step bytes rest t (moves.refused n l h) = (refl, inr (l, h, t))
answers-step bytes rest t (moves.arrives e) = t
answers-step bytes rest t (moves.goes_in e n) = t
answers-step bytes rest t (moves.comes-back-in e n h) = t
answers-step bytes rest t (moves.sent_back e n h) = t
answers-step bytes rest t (moves.assigns e) = t
answers-step bytes rest t (moves.goes_on e h) = t
answers-step bytes rest t (moves.begins-to-wait e h l) = t
answers-step bytes rest t (moves.leaves e) = t

answers-taken : (r : Room) (bytes : List ℕ) (x : Read Event) → event (length r.measures) bytes ≡ x →
    let t = taken r bytes x in Answers r bytes t.result.room t.rest t.result.report
answers-taken r bytes (read e rest) d = answers-step bytes rest ((sound-event (length r.measures)).gives bytes e rest d).1 (step-moves r e)
answers-taken r bytes (refused n) d = let k = (sound-event (length r.measures)).refuses bytes n d in (refl, inl (k.0, k.1, refl))

-- every byte string, given as an event to any room, has such an answer
pub every-event-is-answered : (r : Room) (bytes : List ℕ) → let t = take r bytes in Answers r bytes t.result.room t.rest t.result.report
every-event-is-answered r [] = (refl, refl, refl)
every-event-is-answered r (b ∷ bytes) = answers-taken r (b ∷ bytes) (event (length r.measures) (b ∷ bytes)) refl

-- ---- what follows for a refused event
refused-answer : (r q : Room) (bytes rest : List ℕ) (x : Report) (n : ℕ) → x ≡ refusal n → Answers r bytes q rest x → (q ≡ r) × (1 ≤ n) × (n ≤ 7)
refused-answer r q bytes rest (refusal k) n e h = let s : k ≡ n = cc in (h.0, low s h.1, high s h.1)
  where
    low : k ≡ n → ((1 ≤ k) × (k ≤ 4) × (rest ≡ bytes)) ⊎ ((5 ≤ k) × (k ≤ 7) × Took 2 bytes rest) → 1 ≤ n
    low s (inl i) = omega (arith, i.0)
    low s (inr i) = omega (arith, i.0)

    high : k ≡ n → ((1 ≤ k) × (k ≤ 4) × (rest ≡ bytes)) ⊎ ((5 ≤ k) × (k ≤ 7) × Took 2 bytes rest) → n ≤ 7
    high s (inl i) = omega (arith, i.1)
    high s (inr i) = omega (arith, i.1)
refused-answer r q bytes rest (accepted o j m) n e h = let z : ◌≡◌ {A = ℕ} 0 1 = cc in absurd (omega arith)
refused-answer r q bytes rest nothing n e h = let z : ◌≡◌ {A = ℕ} 0 1 = cc in absurd (omega arith)

pub refused-changes-nothing : (r : Room) (t : Tally) (bytes : List ℕ) (n : ℕ) → (take r bytes).result.report ≡ refusal n →
    ((take r bytes).result.room ≡ r) × (note (take r bytes).result.report t ≡ t) × (1 ≤ n) × (n ≤ 7)
refused-changes-nothing r t bytes n e =
    let a = refused-answer r (take r bytes).result.room bytes (take r bytes).rest (take r bytes).result.report n e (every-event-is-answered r bytes) in
    (a.0, ap (λ x. note x t) e, a.1, a.2)

-- no bytes at all: none is left
pub none-left-changes-nothing : (r : Room) (t : Tally) → ((take r []).result.room ≡ r) × (note (take r []).result.report t ≡ t) × ((take r []).result.report ≡ nothing)
none-left-changes-nothing r t = (refl, refl, refl)

pub every-opening-is-answered : (bytes : List ℕ) → OpeningAnswered bytes (opening bytes)
every-opening-is-answered bytes = go (opening bytes) refl
  where
    go : (x : Read Room) → opening bytes ≡ x → OpeningAnswered bytes x
    go (read r rest) e = sound-opening.gives bytes r rest e
    go (refused n) e = sound-opening.refuses bytes n e

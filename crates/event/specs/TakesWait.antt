-- A Wait taken from bytes: its numbers were read into slots, and the closure of what the slots hold is that of what the rules read, which is all that
-- the rules' step looks at.
use Rattle.std.specs.Prelude.{◌≡◌, List, [], ℕ, ◌≤◌, ◌<◌, ℤ, get_or, length, drop, None, Result, Ok, Err}
use Rattle.std.proofs.Common.{sym, ap, ◌∙◌, subst, arith}
use Rattle.std.proofs.Math.Option.{some}
use Rattle.std.proofs.Math.ListN.{get_or-eq_default}
use Rattle.rules.specs.Laws.Cases.{by_eq, by_lt}
use Rattle.rules.specs.Number.{Read, read, refused, pure, after}
use Rattle.rules.specs.Room.{is_inside, standing}
use Rattle.rules.specs.Step.{Event, wait, waited, step}
use Rattle.rules.specs.Step as rules
use Rattle.rules.specs.Record.{event}
use Rattle.rules.specs.Laws.WellFormed.{sound-event}
use Rattle.rules.specs.Demands.Tickets.{ticket_of}
use Rattle.fields.specs.Answers.{numbered}
use Rattle.fields.specs.Places.{at_place}
use Rattle.fields.specs.Refusals.{refusal_number}
use Rattle.fields.specs.declared.refusal.Refusal.{Refusal}
use Rattle.wire.specs.Heads.{head_at}
use Rattle.wire.specs.Events.{HeadMeans, head-means}
use Rattle.wire.specs.WaitSlots.{WaitSlots, Body, numbers, as_wait, locals_of, ReadsWait}
use Rattle.condition.specs.Closes.{condition_in, given_condition}
use Rattle.given.specs.Taken.{given_in, taken}
use Rattle.given.specs.Taken as given
use Rattle.room.specs.Arrays.{Arrays, standing_at, room_of}
use Rattle.room.specs.Stores.{store_waited}
use Rattle.room.specs.Kept.{Kept}
use Rattle.room.specs.Reports.{Report, meaning}
use Rattle.room.specs.Standings.{standing-is, code-waiting, code-called}
use Rattle.room.specs.Steps.{Stepped}
use Rattle.wait.specs.Waits.{GivenFit, Waited}
use Rattle.event.specs.Answers.{placed}
use Rattle.event.specs.Takes.{Takes, by-step, by-refusal, event-fits}
use Rattle.event.specs.TakesHead.{wait_head}

-- who waits or is called has a ticket below the next
pub tickets-below : (a : Arrays) → Kept a → (j : ℕ) → 3 ≤ get_or a.standing j 0 → get_or a.ticket j 0 < a.next
tickets-below a k j h = k.invariant.tickets-apart.given j (get_or a.ticket j 0) (ap ticket_of (standing-is a j small) ∙ holds)
  where
    small : j < 32
    small = by_lt j 32 (λ p. p) (λ p. absurd (omega (arith, h, get_or-eq_default a.standing 0 {n = j} (omega (arith, p, k.sound.sizes.standing)))))

    holds : ticket_of (standing_at a j) ≡ some (get_or a.ticket j 0)
    holds = by_eq (get_or a.standing j 0) 3
        (λ e. ap ticket_of (code-waiting (condition_in a.slots j) (get_or a.ticket j 0) (get_or a.standing j 0) e))
        (λ e. ap ticket_of (code-called (condition_in a.slots j) (get_or a.ticket j 0) (get_or a.standing j 0) (omega (arith, k.sound.codes j, h, e))))

module _ (a : Arrays) (k : Kept a) (bytes : List ℕ) (at job next : ℕ) (from : head_at bytes (drop at bytes) ≡ wait_head job next) where
  abbrev left : List ℕ
  left = drop at bytes

  means : event a.measures left ≡ after (numbers a.measures (drop next bytes)) (λ b. pure (wait job b.locals b.condition))
  means = (subst (HeadMeans a.measures bytes left) from (head-means a.measures bytes at)).0

  some_left : left ≡ [] → ⊥
  some_left e = let f : Ok None ≡ wait_head job next = ap (head_at bytes) (sym e) ∙ from in let y : ◌≡◌ {A = ℕ} 0 1 = cc in omega arith

  -- what `read_wait` answered, for as many measures as there are
  module _ {m : ℕ} (is : m ≡ a.measures) (r : Result (ℕ × ℕ) Refusal) {l : List ℤ} {s : WaitSlots}
      (waits₀ : ReadsWait bytes (numbers m (drop next bytes)) (numbered r) l s) where
    waits : ReadsWait bytes (numbers a.measures (drop next bytes)) (numbered r) l s
    waits = subst (λ n. ReadsWait bytes (numbers n (drop next bytes)) (numbered r) l s) is waits₀

    no-numbers : {c : Refusal} → r ≡ Err c → numbers a.measures (drop next bytes) ≡ refused (refusal_number c)
    no-numbers {c} e = go (numbers a.measures (drop next bytes)) (sym (ap numbered e) ∙ waits.0)
      where
        go : (x : Read Body) → Err (refusal_number c) ≡ as_wait bytes x → x ≡ refused (refusal_number c)
        go (read b rest) q = let z : ◌≡◌ {A = ℕ} 0 1 = cc in absurd (omega arith)
        go (refused i) q = let y : i ≡ refusal_number c = cc in ap refused y

    pub takes-no-wait : {c : Refusal} → r ≡ Err c → Takes a a bytes at (placed (Err c) at)
    takes-no-wait {c} e =
        by-refusal a k bytes at some_left (means ∙ ap (λ x. after x (λ b. pure (wait job b.locals b.condition))) (no-numbers e))

    module _ {p : ℕ × ℕ} (got : r ≡ Ok p) where
      t : given.WaitTaken a.measures bytes next p.0 p.1 l s
      t = taken a.measures bytes next waits (ap numbered got)

      abbrev read-event : Event
      read-event = wait job t.body.locals t.body.condition

      reads : event a.measures left ≡ read read-event t.rest
      reads = means ∙ ap (λ x. after x (λ b. pure (wait job b.locals b.condition))) t.reads

      rest-is : t.rest ≡ drop p.1 bytes
      rest-is = at_place bytes at ((sound-event a.measures).gives left read-event t.rest reads).1 ∙ ap (λ n. drop n bytes) (sym t.place)

      pub wait-small : job < 32
      wait-small = (event-fits a k bytes at reads).0

      pub count-few : p.0 < 256
      count-few = let c : p.0 ≡ length t.body.condition = counted in omega (arith, c, t.fits.0.0.1)
        where
          counted : p.0 ≡ length t.body.condition
          counted = let q : Ok p ≡ as_wait bytes (read t.body t.rest) = sym (ap numbered got) ∙ waits.0 ∙ ap (as_wait bytes) t.reads in cc

      pub given-fit : (few : ℕ) → GivenFit a.measures (given_in few s l)
      given-fit few = record {
        measure = t.slots.atoms.measure;
        operator = t.slots.atoms.operator;
        coefficients = t.slots.atoms.coefficients;
        constant = t.slots.atoms.constant;
        locals = t.locals-within;
        four = ap length (waits.1 ∙ ap locals_of t.reads) ∙ t.fits.1.0;
      }

      same_step : step (room_of a) (wait job l (given_condition (given_in p.0 s l))) ≡ step (room_of a) read-event
      same_step = ap (λ c. rules.needs (is_inside (standing (room_of a) job)) (room_of a) (waited job c (room_of a))) t.closed

      pub takes-wait : {few : ℕ} → few ≡ p.0 → {b : Arrays} {w : Report} → Waited a b job (given_in few s l) w →
          Takes a b bytes at (placed w p.1)
      takes-wait {few} f {b} {w} w₀ =
          let w₁ : Waited a b job (given_in p.0 s l) w = subst (λ n. Waited a b job (given_in n s l) w) f w₀ in
          let st = w₁.stepped in
          let stepped : Stepped a b read-event w = record {
            report = st.report ∙ ap (λ (x : rules.Step). x.report) same_step;
            room = st.room ∙ ap (λ (x : rules.Step). x.room) same_step;
            sound = st.sound;
            same = st.same;
            plain = st.plain;
          } in
          by-step a k bytes at stepped (w₁.store ∙ ap (λ g. store_waited a job g (meaning w)) t.hold) (reads ∙ ap (read read-event) rest-is) (omega (arith, t.place))

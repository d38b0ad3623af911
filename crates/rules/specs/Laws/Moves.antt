-- What a step may be, whatever the event: a refusal or one of eight moves, each with what is known when it is made. What holds of
-- every step is then proved once for each move.
use Rattle.std.specs.Prelude.{◌≡◌, true, false, List, ℕ, ◌<◌, ◌≤◌, ℤ}
use Rattle.rules.specs.Limits.{tickets}
use Rattle.rules.specs.Condition.{Given, Condition, condition_true, closure}
use Rattle.rules.specs.Room.{Room, outside, door, inside, waiting, called, standing, now, is_inside, stand, store, give_ticket}
use Rattle.rules.specs.Step.{Event, arrive, admit, assign, wait, leave, done, enters, waits, on, back, Step, refuse, plain, searched, occupied}

abbrev pub NobodyInside : Room → Type 0
NobodyInside r = (k : ℕ) → is_inside (standing r k) ≡ false

-- the step that event e makes from room r
pub data Move (r : Room) : Event → Step → Type 0 where
  refused : {e : Event} (n : ℕ) → 5 ≤ n → n ≤ 7 → Move r e (refuse r n)
  arrives : {j : ℕ} → standing r j ≡ outside → Move r (arrive j) (plain done (stand j door r))
  goes_in : {j : ℕ} → standing r j ≡ door → NobodyInside r → Move r (admit j) (plain enters (stand j inside r))
  comes-back-in : {j t : ℕ} {c : Condition} → standing r j ≡ called c t → NobodyInside r → condition_true (now r) c ≡ true → Move r (admit j) (plain enters (stand j inside r))
  sent_back : {j t : ℕ} {c : Condition} → standing r j ≡ called c t → occupied r ≡ false → condition_true (now r) c ≡ false → Move r (admit j) (searched back j (waiting c t) r)
  assigns : {j v : ℕ} {x : ℤ} → standing r j ≡ inside → Move r (assign j v x) (plain done (store v x r))
  goes_on : {j : ℕ} {l : List ℤ} {g : List (List Given)} → standing r j ≡ inside → condition_true (now r) (closure l g) ≡ true → Move r (wait j l g) (plain on r)
  begins-to-wait : {j : ℕ} {l : List ℤ} {g : List (List Given)} → standing r j ≡ inside → condition_true (now r) (closure l g) ≡ false → r.next_ticket < tickets →
      Move r (wait j l g) (searched waits j (waiting (closure l g) r.next_ticket) (give_ticket r))
  leaves : {j : ℕ} → standing r j ≡ inside → Move r (leave j) (searched done j outside r)

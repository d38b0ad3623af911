-- What a step may be, whatever the event: a refusal or one of eight moves, each with what is known when it is made. What holds of
-- every step is then proved once for each move.
use Rattle.std.specs.Prelude.{◌≡◌, refl, Bool, true, false, List, [], ◌∷◌, ℕ, zero, suc, leb, ℤ, get_or, if◌then◌else◌}
use Rattle.std.proofs.Common.{arith, leb-false}
use Rattle.rules.specs.Base.{any}
use Rattle.rules.specs.Limits.{tickets}
use Rattle.rules.specs.Condition.{Given, condition_true, closure}
use Rattle.rules.specs.Room.{Room, Standing, outside, door, inside, waiting, called, standing, now, is_inside, is_outside}
use Rattle.rules.specs.Step.{Event, arrive, admit, assign, wait, leave, Step, refuse, admitted, waited, occupied, step}
use Rattle.rules.specs.Laws.In.{by_bool, true-not-false}
use Rattle.rules.specs.Laws.Moves.{NobodyInside, Move, refused, arrives, goes_in, comes-back-in, sent_back, assigns, goes_on, begins-to-wait, leaves}

-- ---- what the tests of a step say
is-outside : (s : Standing) → is_outside s ≡ true → s ≡ outside
is-outside outside e = refl
is-outside door e = true-not-false e refl
is-outside inside e = true-not-false e refl
is-outside (waiting c t) e = true-not-false e refl
is-outside (called c t) e = true-not-false e refl

is-inside : (s : Standing) → is_inside s ≡ true → s ≡ inside
is-inside inside e = refl
is-inside outside e = true-not-false e refl
is-inside door e = true-not-false e refl
is-inside (waiting c t) e = true-not-false e refl
is-inside (called c t) e = true-not-false e refl

none_inside : (l : List Standing) (k : ℕ) → any is_inside l ≡ false → is_inside (get_or l k outside) ≡ false
none_inside [] k e = refl
none_inside (s ∷ l) zero e = by_bool (is_inside s) (λ t. true-not-false (rw t) e) (λ f. f)
none_inside (s ∷ l) (suc k) e = by_bool (is_inside s) (λ t. true-not-false (rw t) e) (λ f. none_inside l k (rw f at e))

pub unoccupied : (r : Room) → occupied r ≡ false → NobodyInside r
unoccupied r e k = none_inside r.standings k e

-- ---- every step is one of them
if-move : (r : Room) (e : Event) (t : Bool) (a b : Step) → (t ≡ true → Move r e a) → (t ≡ false → Move r e b) → Move r e (if t then a else b)
if-move r e true a b f g = f refl
if-move r e false a b f g = g refl

five : {r : Room} {e : Event} → Move r e (refuse r 5)
five = refused 5 (omega arith) (omega arith)

six : {r : Room} {e : Event} → Move r e (refuse r 6)
six = refused 6 (omega arith) (omega arith)

admit-moves : (r : Room) (j : ℕ) (s : Standing) → standing r j ≡ s → Move r (admit j) (admitted j s r)
admit-moves r j outside e = five
admit-moves r j inside e = five
admit-moves r j (waiting c t) e = five
admit-moves r j door e = if-move r (admit j) (occupied r) _ _ (λ _. six) (λ o. goes_in e (unoccupied r o))
admit-moves r j (called c t) e = if-move r (admit j) (occupied r) _ _ (λ _. six) (λ o. if-move r (admit j) (condition_true (now r) c) _ _
    (λ h. comes-back-in e (unoccupied r o) h)
    (λ h. sent_back e o h))

wait-moves : (r : Room) (j : ℕ) (l : List ℤ) (g : List (List Given)) → standing r j ≡ inside → Move r (wait j l g) (waited j (closure l g) r)
wait-moves r j l g e = if-move r (wait j l g) (condition_true (now r) (closure l g)) _ _ (λ h. goes_on e h) (λ f. if-move r (wait j l g) (leb tickets r.next_ticket) _ _
    (λ _. refused 7 (omega arith) (omega arith))
    (λ n. begins-to-wait e f (leb-false tickets r.next_ticket n)))

pub step-moves : (r : Room) (e : Event) → Move r e (step r e)
step-moves r (arrive j) = if-move r (arrive j) (is_outside (standing r j)) _ _ (λ e. arrives (is-outside (standing r j) e)) (λ _. five)
step-moves r (admit j) = admit-moves r j (standing r j) refl
step-moves r (assign j v x) = if-move r (assign j v x) (is_inside (standing r j)) _ _ (λ e. assigns (is-inside (standing r j) e)) (λ _. five)
step-moves r (wait j l g) = if-move r (wait j l g) (is_inside (standing r j)) _ _ (λ e. wait-moves r j l g (is-inside (standing r j) e)) (λ _. five)
step-moves r (leave j) = if-move r (leave j) (is_inside (standing r j)) _ _ (λ e. leaves (is-inside (standing r j) e)) (λ _. five)

-- Who waits and with which alternatives: a pair is of a job that waits in the room and an alternative of its condition, and
-- every such has one.
use Rattle.std.specs.Prelude.{◌≡◌, refl, ◌⊎◌, List, [], ◌∷◌, ℕ, zero, suc, ◌+◌, get_or}
use Rattle.std.proofs.Common.{sym, ap, ◌∙◌, inl, inr, arith}
use Rattle.rules.specs.Condition.{Atom, Condition}
use Rattle.rules.specs.Rank.{rank}
use Rattle.rules.specs.Room.{Room, Standing, outside, door, inside, waiting, called, standing}
use Rattle.rules.specs.Search.{Waiter, Pair, waiter, waiters, pairs_of, pairs}
use Rattle.rules.specs.Laws.In.{In, in-gather, in_left, in_right, in-append}

-- ---- pairs
pub pairs_of-in : (w : Waiter) (p : Pair) (place : ℕ) (c : Condition) → In p (pairs_of w place c) → (p.waiter ≡ w) × In p.alternative c
pairs_of-in w p place [] h = absurd h
pairs_of-in w p place (a ∷ c) (inl e) = (ap (λ (q : Pair). q.waiter) e, inl (ap (λ (q : Pair). q.alternative) e))
pairs_of-in w p place (a ∷ c) (inr h) = let r = pairs_of-in w p (suc place) c h in (r.0, inr r.1)

pub in-pairs_of : (w : Waiter) (a : List Atom) (place : ℕ) (c : Condition) → In a c → (p : Pair) × In p (pairs_of w place c) × (p.alternative ≡ a)
in-pairs_of w a place [] h = absurd h
in-pairs_of w a place (b ∷ c) (inl e) = (record { waiter = w; alternative = b; rank = rank b w.ticket place }, inl refl, sym e)
in-pairs_of w a place (b ∷ c) (inr h) = let r = in-pairs_of w a (suc place) c h in (r.0, inr r.1, r.2)

abbrev pub of : Waiter → List Pair
of w = pairs_of w 0 w.condition

pub pair_of : (ws : List Waiter) (p : Pair) → In p (pairs ws) → In p.waiter ws × In p.alternative p.waiter.condition
pair_of ws p h =
    let r = in-gather of p ws h in
    let q = pairs_of-in r.0 p 0 r.0.condition r.2 in
    (rw q.0 r.1, rw q.0 q.1)

-- ---- jobs that wait
pub outside-waiting : {c : Condition} {t : ℕ} → outside ≡ waiting c t → ⊥
outside-waiting e = let z : ◌≡◌ {A = ℕ} 0 1 = cc in omega arith

in-waiter : (w : Waiter) (j : ℕ) (s : Standing) → In w (waiter j s) → (w.job ≡ j) × (s ≡ waiting w.condition w.ticket)
in-waiter w j (waiting c t) (inl e) = (ap (λ (v : Waiter). v.job) e, λ i. waiting (sym e i).condition (sym e i).ticket)
in-waiter w j (waiting c t) (inr h) = absurd h
in-waiter w j (called c t) h = absurd h
in-waiter w j outside h = absurd h
in-waiter w j door h = absurd h
in-waiter w j inside h = absurd h

in-waiters : (w : Waiter) (j : ℕ) (l : List Standing) → In w (waiters j l) → (k : ℕ) × (w.job ≡ j + k) × (get_or l k outside ≡ waiting w.condition w.ticket)
in-waiters w j [] h = absurd h
in-waiters w j (s ∷ l) h = go (in-waiters w (suc j) l) (in-append w (waiter j s) (waiters (suc j) l) h)
  where
    go : (In w (waiters (suc j) l) → (k : ℕ) × (w.job ≡ suc j + k) × (get_or l k outside ≡ waiting w.condition w.ticket)) → In w (waiter j s) ⊎ In w (waiters (suc j) l) → (k : ℕ) × (w.job ≡ j + k) × (get_or (s ∷ l) k outside ≡ waiting w.condition w.ticket)
    go ih (inl i) = let r = in-waiter w j s i in (0, omega (arith, r.0), r.1)
    go ih (inr i) = let r = ih i in (suc r.0, omega (arith, r.1), r.2)

waiters-in : (l : List Standing) (j k n t : ℕ) (c : Condition) → n ≡ j + k → get_or l k outside ≡ waiting c t → In (record { job = n; condition = c; ticket = t }) (waiters j l)
waiters-in [] j k n t c q e = outside-waiting e
waiters-in (s ∷ l) j zero n t c q e = in_left _ (waiter j s) (waiters (suc j) l) (rw e (inl (λ i. record { job = same i; condition = c; ticket = t })))
  where
    same : n ≡ j
    same = omega arith
waiters-in (s ∷ l) j (suc k) n t c q e = in_right _ (waiter j s) (waiters (suc j) l) (waiters-in l (suc j) k n t c (omega arith) e)

-- the jobs that wait in a room
abbrev pub waiters_of : Room → List Waiter
waiters_of r = waiters 0 r.standings

pub waits_there : (r : Room) (w : Waiter) → In w (waiters_of r) → standing r w.job ≡ waiting w.condition w.ticket
waits_there r w h =
    let b = in-waiters w 0 r.standings h in
    let n : w.job ≡ b.0 = omega (arith, b.1) in
    ap (standing r) n ∙ b.2

pub there-waits : (r : Room) (j t : ℕ) (c : Condition) → standing r j ≡ waiting c t → In (record { job = j; condition = c; ticket = t }) (waiters_of r)
there-waits r j t c e = waiters-in r.standings 0 j j t c (omega arith) e

-- What a host sees of its room: of a room that came from an accepted opening and events, the rules' standings, the job inside and the values.
use Rattle.std.specs.Prelude.{◌≡◌, refl, false, List, [], ◌∷◌, ◌⊎◌, ℕ, zero, suc, ◌+◌, ◌-◌, ◌<◌, ◌≤◌, eqb, get_or, length}
use Rattle.std.specs.Prelude.{Option, Some, None, MatchOption, unwrap_or, if◌then◌else◌}
use Rattle.std.specs.List.{AllWithin, HoldsAt}
use Rattle.std.proofs.Common.{sym, ap, ◌∙◌, inl, inr, arith, eq-eqb, ne_eqb, eqb-true}
use Rattle.rules.specs.Laws.Cases.{by_lt, by_eq}
use Rattle.rules.specs.Condition.{Condition}
use Rattle.rules.specs.Room.{Standing, outside, door, inside, waiting, called, standing}
use Rattle.rules.specs.Room as rules
use Rattle.rules.specs.Step.{occupied}
use Rattle.rules.specs.Laws.In.{by_bool}
use Rattle.condition.specs.Closes.{condition_in}
use Rattle.room.specs.declared.room.Room.{Room}
use Rattle.room.specs.Arrays.{standing_of, standing_at}
use Rattle.room.specs.Kept.{Kept}
use Rattle.condition.specs.From.{from_past}
use Rattle.room.specs.Standings.{standing-is}
use Rattle.room.specs.Occupied.{somebody, occupied-is}
use Rattle.harbour.specs.Rooms.{arrays_of, meaning}

-- the first job inside of n from job j on, or 32
abbrev pub inside_from : List ℕ → ℕ → ℕ → ℕ
inside_from standings zero j = 32
inside_from standings (suc n) j = if eqb (get_or standings j 0) 2 then j else inside_from standings n (suc j)

-- ---- the answer of `harbour_inside`: the place of the first 2, or that there is none
module _ (standings : List ℕ) where
  abbrev NoneInside : ℕ → ℕ → Type 0
  NoneInside = AllWithin (λ x. x ≡ 2 → ⊥) standings

  none-inside : (n j : ℕ) → NoneInside j (j + n) → 32 ≡ inside_from standings n j
  none-inside zero j h = refl
  none-inside (suc n) j h =
      rw (ne_eqb (get_or standings j 0) 2 (h j 0 (omega arith) (omega arith)))
      (none-inside n (suc j) (λ k d a b. h k d (omega arith) (omega arith)))

  first-inside : (n j i : ℕ) → j ≤ i → i < j + n → get_or standings i 0 ≡ 2 → NoneInside j i → i ≡ inside_from standings n j
  first-inside zero j i a b e h = absurd (omega arith)
  first-inside (suc n) j i a b e h =
      by_eq j i (λ q. rw (eq-eqb (get_or standings j 0) 2 (ap (λ k. get_or standings k 0) q ∙ e)) (sym q))
      (λ q. rw (ne_eqb (get_or standings j 0) 2 (h j 0 (omega arith) (omega (arith, q))))
      (first-inside n (suc j) i (omega (arith, q)) (omega arith) e (λ k d l m. h k d (omega arith) m)))

  pub inside-found : (r : Option ℕ) → length standings ≡ 32 →
      MatchOption r (NoneInside 0 (length standings)) (λ i. (i < length standings) × HoldsAt (λ x. x ≡ 2) standings i × NoneInside 0 i) →
      unwrap_or r 32 ≡ inside_from standings 32 0
  inside-found (Some i) long h = first-inside 32 0 i (omega arith) (omega arith) (h.1 0) h.2
  inside-found None long h = none-inside 32 0 (λ k d a b. h k d a (omega arith))

-- ---- job by job
module _ (standings : List ℕ) where
  abbrev pub inside_left : ℕ → ℕ
  inside_left i = inside_from standings (32 - i) i

  module _ (i : ℕ) {b : ℕ} (h : i < 32) (e : inside_left i ≡ b) where
    step : 32 - i ≡ suc (32 - (i + 1))
    step = omega arith

    next : suc i ≡ i + 1
    next = omega arith

    pub inside-here : get_or standings i 0 ≡ 2 → i ≡ b
    inside-here d = rw (step, eq-eqb (get_or standings i 0) 2 d) at e

    pub inside-later : (get_or standings i 0 ≡ 2 → ⊥) → inside_left (i + 1) ≡ b
    inside-later d = rw (step, ne_eqb (get_or standings i 0) 2 d, next) at e

  pub inside-none : (i : ℕ) {b : ℕ} → inside_left i ≡ b → 32 ≤ i → 32 ≡ b
  inside-none i e h = let z : 32 - i ≡ 0 = omega arith in rw z at e

-- ---- what they are of the rules' room
abbrev pub standing_code : Standing → ℕ
standing_code outside = 0
standing_code door = 1
standing_code inside = 2
standing_code (waiting c t) = 3
standing_code (called c t) = 4

standing-coded : (code : ℕ) (c : Condition) (t : ℕ) → code ≤ 4 → standing_code (standing_of code c t) ≡ code
standing-coded zero c t h = refl
standing-coded (suc zero) c t h = refl
standing-coded (suc (suc zero)) c t h = refl
standing-coded (suc (suc (suc zero))) c t h = refl
standing-coded (suc (suc (suc (suc zero)))) c t h = refl
standing-coded (suc (suc (suc (suc (suc n))))) c t h = absurd (omega arith)

past : {A : Type 0} (d : A) (l : List A) (k : ℕ) → length l ≤ k → d ≡ get_or l k d
past d [] k h = refl
past d (x ∷ l) zero h = absurd (omega arith)
past d (x ∷ l) (suc k) h = past d l k (omega arith)

pub none-there : {A : Type 0} (d : A) (l : List A) (n k : ℕ) → length l ≡ n → n ≤ k → d ≡ get_or l k d
none-there d l n k e h = past d l k (omega arith)

module _ (room : Room) (k : Kept (arrays_of room)) where
  pub look-standing : (j : ℕ) → get_or room.standing j 0 ≡ standing_code (standing (meaning room) j)
  look-standing j =
      by_lt j 32 (λ h. sym (standing-coded (get_or room.standing j 0) (condition_in (arrays_of room).slots j) (get_or room.ticket j 0) (k.sound.codes j)) ∙ ap standing_code (sym (standing-is (arrays_of room) j h)))
      (λ h. sym (none-there 0 room.standing 32 j k.sound.sizes.standing h) ∙ ap standing_code (sym (from_past outside (standing_at (arrays_of room)) 32 0 j h)))

  pub look-value : (i : ℕ) → get_or room.shared.values i ≡ get_or (meaning room).values i
  look-value i = refl

  pub look-ticket : room.next_ticket ≡ (meaning room).next_ticket
  look-ticket = refl

  -- a job that is inside, or nobody is: and at most one is
  found : (n j : ℕ) → let r = inside_from room.standing n j in (get_or room.standing r 0 ≡ 2) ⊎ ((r ≡ 32) × (somebody room.standing n j ≡ false))
  found zero j = inr (refl, refl)
  found (suc n) j = by_bool (eqb (get_or room.standing j 0) 2) (λ e. rw e (inl (eqb-true _ 2 e))) (λ e. rw e (found n (suc j)))

  pub look-inside : let j = inside_from room.standing 32 0 in (standing_code (standing (meaning room) j) ≡ 2) ⊎ ((j ≡ 32) × (occupied (meaning room) ≡ false))
  look-inside = go (found 32 0)
    where
      go : (get_or room.standing (inside_from room.standing 32 0) 0 ≡ 2) ⊎ ((inside_from room.standing 32 0 ≡ 32) × (somebody room.standing 32 0 ≡ false)) →
          (standing_code (standing (meaning room) (inside_from room.standing 32 0)) ≡ 2) ⊎ ((inside_from room.standing 32 0 ≡ 32) × (occupied (meaning room) ≡ false))
      go (inl e) = inl (sym (look-standing (inside_from room.standing 32 0)) ∙ e)
      go (inr e) = inr (e.0, occupied-is (arrays_of room) k.sound ∙ e.1)

-- Rooms that mean the same look the same.
pub seen_alike : (room room' : Room) → Kept (arrays_of room) → Kept (arrays_of room') → meaning room ≡ meaning room' →
    ((j : ℕ) → get_or room.standing j 0 ≡ get_or room'.standing j 0) × (room.shared.values ≡ room'.shared.values)
    × (room.next_ticket ≡ room'.next_ticket)
seen_alike room room' k k' e = (λ j. look-standing room k j ∙ ap (λ r. standing_code (standing r j)) e ∙ sym (look-standing room' k' j), ap (λ (r : rules.Room). r.values) e, ap (λ (r : rules.Room). r.next_ticket) e)

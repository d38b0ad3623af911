-- What an event leaves: the rules' report, the rules' room, and arrays that keep what they kept; refused, the very arrays.
use Rattle.std.specs.Prelude.{◌≡◌, refl, ℕ, zero, suc, ◌≤◌, eqb, Err}
use Rattle.std.proofs.Common.{ap, subst, arith, sym}
use Rattle.rules.specs.Condition.{Condition}
use Rattle.rules.specs.Room.{is_inside, is_outside}
use Rattle.rules.specs.Step.{Event, step}
use Rattle.fields.specs.declared.refusal.Refusal.{Refusal}
use Rattle.room.specs.Arrays.{Arrays, standing_of, room_of}
use Rattle.room.specs.Kept.{Sound}
use Rattle.room.specs.Reports.{Report, meaning, Plain}
use Rattle.room.specs.Tickets.{with_next}

-- b is what an event makes of a, with this report
pub record Stepped (a b : Arrays) (e : Event) (r : Report) : Type 0 where
  pub report : meaning r ≡ (step (room_of a) e).report
  pub room : room_of b ≡ (step (room_of a) e).room
  pub sound : Sound b
  -- a refused event leaves every number as it was
  pub same : (k : Refusal) → r ≡ Err k → b ≡ a
  -- who is called is one of the 32 jobs
  pub plain : Plain r

-- whatever the next ticket is, so also with its own
pub own-next : (a b : Arrays) (e : Event) (r : Report) →
    ((next : ℕ) → Stepped (with_next a next) (with_next b next) e r) → b.next ≡ a.next → Stepped a b e r
own-next a b e r all same = subst (λ c. Stepped a c e r) (ap (with_next b) (sym same)) (all a.next)

-- ---- standings by their numbers
module _ (c : Condition) (t : ℕ) where
  pub outside-is : (code : ℕ) → code ≤ 4 → is_outside (standing_of code c t) ≡ eqb code 0
  outside-is zero h = refl
  outside-is (suc zero) h = refl
  outside-is (suc (suc zero)) h = refl
  outside-is (suc (suc (suc zero))) h = refl
  outside-is (suc (suc (suc (suc zero)))) h = refl
  outside-is (suc (suc (suc (suc (suc n))))) h = absurd (omega arith)

  pub inside_is : (code : ℕ) → code ≤ 4 → is_inside (standing_of code c t) ≡ eqb code 2
  inside_is zero h = refl
  inside_is (suc zero) h = refl
  inside_is (suc (suc zero)) h = refl
  inside_is (suc (suc (suc zero))) h = refl
  inside_is (suc (suc (suc (suc zero)))) h = refl
  inside_is (suc (suc (suc (suc (suc n))))) h = absurd (omega arith)

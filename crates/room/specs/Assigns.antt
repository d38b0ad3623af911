-- Set: the job inside gives a shared variable a value.
use Rattle.std.specs.Prelude.{◌≡◌, refl, List, ℕ, ◌<◌, eqb, ℤ, pos, get_or, set, if◌then◌else◌, Err}
use Rattle.std.proofs.Common.{ap, ◌∙◌, arith, eq-eqb, ne_eqb, length-set, get_or-set_same, get_or-set_other}
use Rattle.rules.specs.Laws.Cases.{by_eq}
use Rattle.rules.specs.Limits.{value_most}
use Rattle.rules.specs.Room.{is_inside, standing}
use Rattle.rules.specs.Step.{assign}
use Rattle.rules.specs.Laws.In.{by_bool}
use Rattle.rules.specs.Laws.Bounds.{Within}
use Rattle.condition.specs.Closes.{condition_in}
use Rattle.room.specs.Arrays.{Arrays, arrays, room_of}
use Rattle.room.specs.Kept.{Sound}
use Rattle.room.specs.Standings.{standing-is}
use Rattle.room.specs.Reports.{Report, plain_report, accepted-not}
use Rattle.room.specs.Steps.{Stepped, inside_is}
use Rattle.fields.specs.declared.refusal.Refusal.TheVariants.{WrongStanding}
use Rattle.room.specs.declared.report.Outcome.TheVariants.{Done}

-- the report of an event that needs the job inside and makes no search
abbrev pub inside_report : List ℕ → ℕ → Report
inside_report standing job = if eqb (get_or standing job 0) 2 then plain_report Done else Err WrongStanding

abbrev pub assign_values : List ℕ → List ℤ → ℕ → ℕ → ℤ → List ℤ
assign_values standing values job variable value = if eqb (get_or standing job 0) 2 then set values variable value else values

abbrev pub revalued : Arrays → List ℤ → Arrays
revalued a values = arrays a.coefficients values a.standing a.ticket a.slots a.entry a.high a.low a.places a.lengths a.measures a.next

-- ---- as the code has them
module _ (standing : List ℕ) (values : List ℤ) (job variable : ℕ) (value : ℤ) where
  pub assigns : {x : ℤ} → x ≡ value → get_or standing job 0 ≡ 2 →
      (plain_report Done ≡ inside_report standing job) × (set values variable x ≡ assign_values standing values job variable value)
  assigns e d = rw (eq-eqb (get_or standing job 0) 2 d) (refl, ap (set values variable) e)

  pub assigns-not : (get_or standing job 0 ≡ 2 → ⊥) →
      (Err WrongStanding ≡ inside_report standing job) × (values ≡ assign_values standing values job variable value)
  assigns-not d = rw (ne_eqb (get_or standing job 0) 2 d) (refl, refl)

-- ---- and that is the rules' step
pub inside-test : (a : Arrays) → Sound a → (job : ℕ) → job < 32 → is_inside (standing (room_of a) job) ≡ eqb (get_or a.standing job 0) 2
inside-test a k job small = ap is_inside (standing-is a job small) ∙ inside_is (condition_in a.slots job) (get_or a.ticket job 0) (get_or a.standing job 0) (k.codes job)

module _ (a : Arrays) (k : Sound a) (job variable : ℕ) (value : ℤ) (small : job < 32) (v-small : variable < 8) (within : Within value_most value) where
  assigned : Sound (revalued a (set a.values variable value))
  assigned = record {
    sizes = record {
      coefficients = k.sizes.coefficients;
      values = length-set a.values variable value ∙ k.sizes.values;
      standing = k.sizes.standing;
      ticket = k.sizes.ticket;
      slots = k.sizes.slots;
      high = k.sizes.high;
      low = k.sizes.low;
    };
    fit = k.fit;
    some-measure = k.some-measure;
    ranges = record {
      coefficients = k.ranges.coefficients;
      values = λ j. by_eq j variable
          (λ d. rw (d, get_or-set_same a.values variable value (pos 0) (omega (arith, k.sizes.values))) within)
          (λ d. rw (get_or-set_other a.values variable j value (pos 0) d) (k.ranges.values j));
      keys = k.ranges.keys;
    };
    zeros = k.zeros;
    tickets = k.tickets;
    codes = k.codes;
    index = k.index;
    waits = k.waits;
    apart = k.apart;
    words = k.words;
  }

  pub assign-steps : Stepped a (revalued a (assign_values a.standing a.values job variable value)) (assign job variable value) (inside_report a.standing job)
  assign-steps =
      let test = inside-test a k job small in
      by_bool (eqb (get_or a.standing job 0) 2)
      (λ t. record {
        report = rw (test ∙ t, t) refl;
        room = rw (test ∙ t, t) refl;
        sound = rw t assigned;
        same = λ n e. absurd (accepted-not (rw t at e));
        plain = rw t tt;
      })
      (λ t. record { report = rw (test ∙ t, t) refl; room = rw (test ∙ t, t) refl; sound = rw t k; same = λ n e. rw t refl; plain = rw t tt })

-- Wait: a condition that is true changes nothing; a false one takes the next ticket, a search is made, and the job waits.
use Rattle.std.specs.Prelude.{◌≡◌, refl, Bool, true, false, ℕ, ◌<◌, ◌≤◌, get_or, length, Err}
use Rattle.std.proofs.Common.{sym, ◌∙◌, eq-eqb, ne_eqb, le-leb}
use Rattle.rules.specs.Limits.{tickets, coefficient_most, value_most}
use Rattle.rules.specs.Condition.{Condition, closure, condition_true}
use Rattle.rules.specs.Room.{is_inside, standing, now}
use Rattle.rules.specs.Step.{wait}
use Rattle.condition.specs.Measures.{AllIn, now_at}
use Rattle.condition.specs.Closing.{GivenSlots}
use Rattle.condition.specs.Closes.{given_condition}
use Rattle.room.specs.Arrays.{Arrays, room_of}
use Rattle.room.specs.Stores.{store_of, store_waited}
use Rattle.room.specs.Kept.{Sound}
use Rattle.room.specs.Reports.{Report, meaning, plain_report}
use Rattle.room.specs.Steps.{Stepped}
use Rattle.room.specs.Assigns.{inside-test}
use Rattle.room.specs.Searches.{true_same}
use Rattle.fields.specs.declared.refusal.Refusal.TheVariants.{WrongStanding, NoTicket}
use Rattle.room.specs.declared.report.Outcome.TheVariants.{On}

-- a Wait's numbers keep to document 01's ranges, in a room with so many measures
pub record GivenFit (measures : ℕ) (g : GivenSlots) : Type 0 where
  pub measure : (k : ℕ) → get_or g.measure k 0 < measures
  pub operator : (k : ℕ) → get_or g.operator k 0 ≤ 6
  pub coefficients : AllIn coefficient_most g.coefficients
  pub constant : AllIn value_most g.constant
  pub locals : AllIn value_most g.locals
  pub four : length g.locals ≡ 4

-- b is what a Wait with these slots makes of a, with this report
pub record Waited (a b : Arrays) (job : ℕ) (g : GivenSlots) (r : Report) : Type 0 where
  pub stepped : Stepped a b (wait job g.locals (given_condition g)) r
  pub store : store_of b ≡ store_waited a job g (meaning r)

module _ (a : Arrays) (k : Sound a) (job : ℕ) (small : job < 32) (g : GivenSlots) where
  abbrev pub waits_for : Condition
  waits_for = closure g.locals (given_condition g)

  pub waits-not : (get_or a.standing job 0 ≡ 2 → ⊥) → Waited a a job g (Err WrongStanding)
  waits-not d =
      let test = inside-test a k job small ∙ ne_eqb (get_or a.standing job 0) 2 d in
      record { stepped = record { report = rw test refl; room = rw test refl; sound = k; same = λ m e. refl; plain = tt }; store = refl }

  module _ (d : get_or a.standing job 0 ≡ 2) {u : Bool} (holds : u ≡ condition_true (now_at a.coefficients a.values) waits_for) where
    test : is_inside (standing (room_of a) job) ≡ true
    test = inside-test a k job small ∙ eq-eqb (get_or a.standing job 0) 2 d

    pub true-is : condition_true (now (room_of a)) waits_for ≡ u
    true-is = sym (holds ∙ true_same a k waits_for)

    pub waits-on : u ≡ true → Waited a a job g (plain_report On)
    waits-on t = record {
      stepped = record {
        report = rw (test, true-is ∙ t) refl;
        room = rw (test, true-is ∙ t) refl;
        sound = k;
        same = λ m e. refl;
        plain = tt;
      };
      store = refl;
    }

    pub waits-no-ticket : u ≡ false → tickets ≤ a.next → Waited a a job g (Err NoTicket)
    waits-no-ticket t h = record {
      stepped = record { report = rw (test, true-is ∙ t, le-leb tickets a.next h) refl; room = rw (test, true-is ∙ t, le-leb tickets a.next h) refl; sound = k; same = λ m e. refl; plain = tt };
      store = refl;
    }

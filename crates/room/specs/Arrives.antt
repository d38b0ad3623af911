-- Arrive: outside to door.
use Rattle.std.specs.Prelude.{◌≡◌, refl, List, ℕ, ◌<◌, eqb, get_or, set, if◌then◌else◌, Err}
use Rattle.std.proofs.Common.{ap, ◌∙◌, arith, eqb-true, eq-eqb, ne_eqb}
use Rattle.rules.specs.Room.{is_outside, standing, stand}
use Rattle.rules.specs.Step.{arrive}
use Rattle.rules.specs.Laws.In.{by_bool}
use Rattle.condition.specs.Closes.{condition_in}
use Rattle.room.specs.Arrays.{Arrays, room_of}
use Rattle.room.specs.Kept.{Sound}
use Rattle.room.specs.Standings.{standing-is, code-door}
use Rattle.room.specs.Stands.{restood, room-stand, sound-stand}
use Rattle.room.specs.Reports.{Report, plain_report, accepted-not}
use Rattle.room.specs.Steps.{Stepped, outside-is}
use Rattle.fields.specs.declared.refusal.Refusal.TheVariants.{WrongStanding}
use Rattle.room.specs.declared.report.Outcome.TheVariants.{Done}

abbrev pub arrive_report : List ℕ → ℕ → Report
arrive_report standing job = if eqb (get_or standing job 0) 0 then plain_report Done else Err WrongStanding

abbrev pub arrive_standing : List ℕ → ℕ → List ℕ
arrive_standing standing job = if eqb (get_or standing job 0) 0 then set standing job 1 else standing

-- ---- as the code has them
module _ (standing : List ℕ) (job : ℕ) where
  pub arrives : get_or standing job 0 ≡ 0 →
      (plain_report Done ≡ arrive_report standing job) × (set standing job 1 ≡ arrive_standing standing job)
  arrives e = rw (eq-eqb (get_or standing job 0) 0 e) (refl, refl)

  pub arrives-not : (get_or standing job 0 ≡ 0 → ⊥) →
      (Err WrongStanding ≡ arrive_report standing job) × (standing ≡ arrive_standing standing job)
  arrives-not e = rw (ne_eqb (get_or standing job 0) 0 e) (refl, refl)

-- ---- and that is the rules' step
module _ (a : Arrays) (k : Sound a) (job : ℕ) (small : job < 32) where
  test : is_outside (standing (room_of a) job) ≡ eqb (get_or a.standing job 0) 0
  test = ap is_outside (standing-is a job small) ∙ outside-is (condition_in a.slots job) (get_or a.ticket job 0) (get_or a.standing job 0) (k.codes job)

  pub arrive-steps : Stepped a (restood a (arrive_standing a.standing job)) (arrive job) (arrive_report a.standing job)
  arrive-steps = by_bool (eqb (get_or a.standing job 0) 0)
      (λ t. record {
        report = rw (test ∙ t, t) refl;
        room = rw (test ∙ t, t) (room-stand a job 1 small k.sizes a.entry a.places a.lengths ∙ ap (λ s. stand job s (room_of a)) (code-door (condition_in a.slots job) (get_or a.ticket job 0) 1 refl));
        sound = rw t (sound-stand a job 1 small k.sizes k (ne_eqb (get_or a.standing job 0) 3 (λ e. omega (arith, e, eqb-true (get_or a.standing job 0) 0 t))) refl (omega arith));
        same = λ n e. absurd (accepted-not (rw t at e));
        plain = rw t tt;
      })
      (λ t. record { report = rw (test ∙ t, t) refl; room = rw (test ∙ t, t) refl; sound = rw t k; same = λ n e. rw t refl; plain = rw t tt })

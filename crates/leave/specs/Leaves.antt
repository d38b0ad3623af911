-- Leave: inside to outside, then a search.
use Rattle.std.specs.Prelude.{◌≡◌, refl, List, ℕ, ◌<◌, get_or, set, Err}
use Rattle.std.proofs.Common.{sym, ap, ◌∙◌, subst, arith, eq-eqb, ne_eqb}
use Rattle.rules.specs.Room.{stand, outside}
use Rattle.rules.specs.Step.{leave}
use Rattle.condition.specs.Measures.{now_at}
use Rattle.search.specs.declared.Answer.{Answer}
use Rattle.room.specs.Arrays.{Arrays}
use Rattle.room.specs.Kept.{Sound}
use Rattle.room.specs.Calls.{moved, CallsNext}
use Rattle.room.specs.Stands.{room-stand, sound-stand}
use Rattle.room.specs.Tickets.{with_next, sound-next, calls-next}
use Rattle.room.specs.Reports.{Report, meaning, search_report, search-not, Plain}
use Rattle.room.specs.Steps.{Stepped}
use Rattle.room.specs.Searches.{search-room, search-report, search-plain, search-others}
use Rattle.room.specs.Assigns.{inside-test}
use Rattle.fields.specs.declared.refusal.Refusal.TheVariants.{WrongStanding}
use Rattle.room.specs.declared.report.Outcome.TheVariants.{Done}

module _ (a₀ : Arrays) (k₀ : Sound a₀) (job : ℕ) (small : job < 32) (next : ℕ) where
  abbrev a : Arrays
  a = with_next a₀ next

  k : Sound a
  k = sound-next a₀ next k₀

  pub leaves-not : (get_or a₀.standing job 0 ≡ 2 → ⊥) → Stepped a a (leave job) (Err WrongStanding)
  leaves-not d =
      let test = inside-test a k job small ∙ ne_eqb (get_or a.standing job 0) 2 d in
      record { report = rw test refl; room = rw test refl; sound = k; same = λ m e. refl; plain = tt }

  module _ (st entry places lengths : List ℕ) (r : Answer) (n₀ : CallsNext a₀ (now_at a₀.coefficients a₀.values) st entry places lengths r) where
    pub leaves : get_or a₀.standing job 0 ≡ 2 → {u : Report} → u ≡ search_report Done r →
        Stepped a (moved a (set st job 0) entry places lengths) (leave job) u
    leaves d {u} e =
        let n = calls-next a₀ next (now_at a₀.coefficients a₀.values) st entry places lengths r n₀ in
        let test = inside-test a k job small ∙ eq-eqb (get_or a.standing job 0) 2 d in
        let b = moved a st entry places lengths in
        let other = search-others a k st entry places lengths r n job (ne_eqb (get_or a.standing job 0) 3 (λ z. omega (arith, z))) in
        record {
          report = rw test (ap meaning e ∙ search-report a k st entry places lengths r n Done);
          room = rw test (room-stand b job 0 small n.sound.sizes entry places lengths ∙ ap (stand job outside) (search-room a k st entry places lengths r n));
          sound = sound-stand b job 0 small n.sound.sizes n.sound (ne_eqb (get_or st job 0) 3 (λ z. omega (arith, z, other))) refl (omega arith);
          same = λ m f. absurd (search-not Done r (sym e ∙ f));
          plain = subst Plain (sym e) (search-plain a k st entry places lengths r n Done);
        }

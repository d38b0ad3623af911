-- Admit: door or called, and nobody inside. A called job's condition is evaluated: true, it goes in; false, a search is made and it is sent back.
use Rattle.std.specs.Prelude.{◌≡◌, refl, ◌⊎◌, Bool, true, false, List, ℕ, zero, suc, ◌<◌, ◌≤◌, eqb, get_or, set, Err}
use Rattle.std.proofs.Common.{sym, ap, ◌∙◌, subst, inl, inr, arith, eqb-true, eq-eqb, ne_eqb, ltb-false, lt-ltb, length-set, get_or-set_same, get_or-set_other}
use Rattle.rules.specs.Laws.Cases.{by_eq}
use Rattle.rules.specs.Condition.{condition_true}
use Rattle.rules.specs.Room.{standing, stand, door, inside, waiting, called, now}
use Rattle.rules.specs.Step.{Step, admit, admitted, occupied, refuse, step}
use Rattle.condition.specs.Measures.{now_at}
use Rattle.condition.specs.Closes.{condition_in}
use Rattle.entries.specs.Entries.{Waits}
use Rattle.index.specs.Changes.{JoinedIndex}
use Rattle.search.specs.declared.Answer.{Answer}
use Rattle.room.specs.Arrays.{Arrays, standing_of, room_of}
use Rattle.room.specs.Kept.{Sound}
use Rattle.room.specs.Standings.{standing-is, code-door, code_inside, code-waiting, code-called}
use Rattle.room.specs.Calls.{moved, CallsNext}
use Rattle.room.specs.Tickets.{with_next, sound-next, calls-next}
use Rattle.room.specs.Stands.{restood, room-stand, sound-stand}
use Rattle.room.specs.Reports.{Report, meaning, plain_report, search_report, accepted-not, search-not, Plain}
use Rattle.room.specs.Steps.{Stepped}
use Rattle.room.specs.Searches.{true_same, search-room, search-report, search-plain, search-others}
use Rattle.room.specs.Joins.{MayJoin}
use Rattle.room.specs.Occupied.{somebody, occupied-is}
use Rattle.fields.specs.declared.refusal.Refusal.{Refusal}
use Rattle.fields.specs.declared.refusal.Refusal.TheVariants.{WrongStanding, Occupied}
use Rattle.room.specs.declared.report.Outcome.TheVariants.{In, Back}

module _ (a₀ : Arrays) (k₀ : Sound a₀) (job : ℕ) (small : job < 32) (next : ℕ) where
  abbrev a : Arrays
  a = with_next a₀ next

  k : Sound a
  k = sound-next a₀ next k₀

  abbrev code : ℕ
  code = get_or a₀.standing job 0

  is-door : code ≡ 1 → standing (room_of a) job ≡ door
  is-door d = standing-is a job small ∙ code-door (condition_in a.slots job) (get_or a.ticket job 0) code d

  is-called : code ≡ 4 → standing (room_of a) job ≡ called (condition_in a.slots job) (get_or a.ticket job 0)
  is-called d = standing-is a job small ∙ code-called (condition_in a.slots job) (get_or a.ticket job 0) code d

  -- ---- goes inside
  goes-inside : eqb code 3 ≡ false → (room_of (restood a (set a.standing job 2)) ≡ stand job inside (room_of a)) × Sound (restood a (set a.standing job 2))
  goes-inside d = (
    room-stand a job 2 small k.sizes a.entry a.places a.lengths ∙ ap (λ s. stand job s (room_of a)) (code_inside (condition_in a.slots job) (get_or a.ticket job 0) 2 refl),
    sound-stand a job 2 small k.sizes k d refl (omega arith),
  )

  -- ---- refused
  by-step : {r : Report} {s : Step} (b : Arrays) → step (room_of a) (admit job) ≡ s → meaning r ≡ s.report → room_of b ≡ s.room → Sound b →
      ((m : Refusal) → r ≡ Err m → b ≡ a) → Plain r → Stepped a b (admit job) r
  by-step b e p q h o l = record { report = p ∙ ap (λ (s : Step). s.report) (sym e); room = q ∙ ap (λ (s : Step). s.room) (sym e); sound = h; same = o; plain = l }

  neither : (n : ℕ) → n ≤ 4 → (n ≡ 1 → ⊥) → (n ≡ 4 → ⊥) → admitted job (standing_of n (condition_in a.slots job) (get_or a.ticket job 0)) (room_of a) ≡ refuse (room_of a) 5
  neither zero h d c = refl
  neither (suc zero) h d c = absurd (d refl)
  neither (suc (suc zero)) h d c = refl
  neither (suc (suc (suc zero))) h d c = refl
  neither (suc (suc (suc (suc zero)))) h d c = absurd (c refl)
  neither (suc (suc (suc (suc (suc n))))) h d c = absurd (omega arith)

  pub admits-not : (code ≡ 1 → ⊥) → (code ≡ 4 → ⊥) → Stepped a a (admit job) (Err WrongStanding)
  admits-not d c = by-step a (ap (λ s. admitted job s (room_of a)) (standing-is a job small) ∙ neither code (k.codes job) d c) refl refl k (λ m o. refl) tt

  -- ---- somebody is inside, or not
  module _ {b : Bool} (is : b ≡ somebody a₀.standing 32 0) where
    full : b ≡ true → occupied (room_of a) ≡ true
    full t = occupied-is a k ∙ sym is ∙ t

    free : b ≡ false → occupied (room_of a) ≡ false
    free t = occupied-is a k ∙ sym is ∙ t

    pub admits-full : (code ≡ 1) ⊎ (code ≡ 4) → b ≡ true → Stepped a a (admit job) (Err Occupied)
    admits-full (inl d) t = by-step a (ap (λ s. admitted job s (room_of a)) (is-door d) ∙ rw (full t) refl) refl refl k (λ m o. refl) tt
    admits-full (inr d) t = by-step a (ap (λ s. admitted job s (room_of a)) (is-called d) ∙ rw (full t) refl) refl refl k (λ m o. refl) tt

    pub admits-door : code ≡ 1 → b ≡ false → Stepped a (restood a (set a₀.standing job 2)) (admit job) (plain_report In)
    admits-door d t =
        let g = goes-inside (ne_eqb code 3 (λ e. omega (arith, e, d))) in
        by-step (restood a (set a.standing job 2)) (ap (λ s. admitted job s (room_of a)) (is-door d) ∙ rw (free t) refl)
        refl g.0 g.1 (λ m o. absurd (accepted-not o)) tt

    -- ---- a called job
    module _ (d : code ≡ 4) (t : b ≡ false) {u : Bool} (holds : u ≡ condition_true (now_at a₀.coefficients a₀.values) (condition_in a₀.slots job)) where
      true-is : condition_true (now (room_of a)) (condition_in a.slots job) ≡ u
      true-is = sym (holds ∙ true_same a k (condition_in a.slots job))

      pub admits-called : u ≡ true → Stepped a (restood a (set a₀.standing job 2)) (admit job) (plain_report In)
      admits-called v =
          let g = goes-inside (ne_eqb code 3 (λ e. omega (arith, e, d))) in
          by-step (restood a (set a.standing job 2)) (ap (λ s. admitted job s (room_of a)) (is-called d) ∙ rw (free t, true-is ∙ v) refl)
          refl g.0 g.1 (λ m o. absurd (accepted-not o)) tt

      -- ---- sent back: a search was made, and the job joins the index again
      module _ (v : u ≡ false) (st entry places lengths : List ℕ) (r : Answer) (n₀ : CallsNext a₀ (now_at a₀.coefficients a₀.values) st entry places lengths r) where
        n : CallsNext a (now_at a₀.coefficients a₀.values) st entry places lengths r
        n = calls-next a₀ next (now_at a₀.coefficients a₀.values) st entry places lengths r n₀

        stays : get_or st job 0 ≡ 4
        stays = search-others a k st entry places lengths r n job (ne_eqb code 3 (λ e. omega (arith, e, d))) ∙ d

        back-out : get_or entry job 0 ≡ 0
        back-out = omega (arith, ltb-false 0 (get_or entry job 0) (n.sound.waits job ∙ ne_eqb (get_or st job 0) 3 (λ e. omega (arith, e, stays))))

        back-apart : (j : ℕ) → Waits entry j → get_or a₀.ticket j 0 ≡ get_or a₀.ticket job 0 → ⊥
        back-apart j w e =
            let three = eqb-true (get_or st j 0) 3 (sym (n.sound.waits j) ∙ lt-ltb 0 (get_or entry j 0) w) in
            let same : j ≡ job = n.sound.apart j job (omega (arith, three)) (omega (arith, stays)) e in
            omega (arith, three, ap (λ x. get_or st x 0) same, stays)

        pub may-rejoin : MayJoin a₀.slots a₀.ticket a₀.high a₀.low entry job
        may-rejoin = record { out = back-out; apart = back-apart; words = n.sound.words job stays }

        module _ (entry' places' lengths' : List ℕ) (joined : JoinedIndex a₀.slots a₀.ticket a₀.high a₀.low job entry entry' places' lengths') where
          abbrev b₁ : Arrays
          b₁ = moved a st entry places lengths

          here : get_or (set st job 3) job 0 ≡ 3
          here = get_or-set_same st job 3 0 (omega (arith, n.sound.sizes.standing))

          held : (j : ℕ) → 3 ≤ get_or (set st job 3) j 0 → 3 ≤ get_or st j 0
          held j h = by_eq j job (λ e. omega (arith, ap (λ x. get_or st x 0) e, stays)) (λ e. rw (get_or-set_other st job j 3 0 e) at h)

          back-sound : Sound (moved a (set st job 3) entry' places' lengths')
          back-sound = record {
            sizes = record {
              coefficients = k.sizes.coefficients;
              values = k.sizes.values;
              standing = length-set st job 3 ∙ n.sound.sizes.standing;
              ticket = k.sizes.ticket;
              slots = k.sizes.slots;
              high = k.sizes.high;
              low = k.sizes.low;
            };
            fit = k.fit;
            some-measure = k.some-measure;
            ranges = k.ranges;
            zeros = k.zeros;
            tickets = k.tickets;
            codes = λ j. by_eq j job (λ e. rw (ap (λ x. get_or (set st job 3) x 0) e ∙ here) (omega arith)) (λ e. rw (get_or-set_other st job j 3 0 e) (n.sound.codes j));
            index = joined.index;
            waits = λ j. by_eq j job
                (λ e. joined.waits j ∙ rw (eq-eqb j job e) (sym (ap (λ x. eqb x 3) (ap (λ x. get_or (set st job 3) x 0) e ∙ here))))
                (λ e. joined.waits j ∙ rw (ne_eqb j job e) (n.sound.waits j ∙ ap (λ x. eqb x 3) (sym (get_or-set_other st job j 3 0 e))));
            apart = λ i j g h. n.sound.apart i j (held i g) (held j h);
            words = λ j h. by_eq j job
                (λ e. absurd (omega (arith, h, ap (λ x. get_or (set st job 3) x 0) e ∙ here)))
                (λ e. n.sound.words j (sym (get_or-set_other st job j 3 0 e) ∙ h));
          }

          pub sent_back : {w : Report} → w ≡ search_report Back r → Stepped a (moved a (set st job 3) entry' places' lengths') (admit job) w
          sent_back {w} e =
              by-step (moved a (set st job 3) entry' places' lengths') (ap (λ s. admitted job s (room_of a)) (is-called d) ∙ rw (free t, true-is ∙ v) refl)
              (ap meaning e ∙ search-report a k st entry places lengths r n Back)
              (room-stand b₁ job 3 small n.sound.sizes entry' places' lengths'
              ∙ ap (λ s. stand job s (room_of b₁)) (code-waiting (condition_in a.slots job) (get_or a.ticket job 0) 3 refl)
              ∙ ap (stand job (waiting (condition_in a.slots job) (get_or a.ticket job 0))) (search-room a k st entry places lengths r n))
              back-sound (λ m o. absurd (search-not Back r (sym e ∙ o)))
              (subst Plain (sym e) (search-plain a k st entry places lengths r n Back))

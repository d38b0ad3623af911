-- An event: what is written reads back as the same event, and what was read is written as it stood; kind by kind.
use Rattle.std.specs.Prelude.{◌≡◌, Bool, true, false, List, [], ℕ, ◌≤◌, ◌<◌, eqb, ℤ, pos, if◌then◌else◌}
use Rattle.std.proofs.Math.Path.{refl, ap}
use Rattle.std.proofs.Common.{sym, ◌∙◌, subst, arith, eqb-true, eq-eqb}
use Rattle.rules.specs.Limits.{jobs, variables, locals, kind_most}
use Rattle.rules.specs.Number.{Reader, pure, ◌>>=◌, times, field, below}
use Rattle.rules.specs.Condition.{Given}
use Rattle.rules.specs.Step.{Event, arrive, admit, assign, wait, leave}
use Rattle.rules.specs.Record.{value, condition, of_kind, event}
use Rattle.rules.specs.Writer.{Written, written, ◌then◌, all-written, write_field, write_below, write_value, event_kind, event_job, write_condition, write_rest, write_fields}
use Rattle.rules.specs.Laws.Halves.{Halves, Many, halves-pure, halves-same, halves-writer, halves-then, halves-last, halves-times}
use Rattle.rules.proofs.Laws.FieldHalves.{halves_range, halves-below}
use Rattle.rules.specs.Laws.Written.{Any, ConditionShape}
use Rattle.rules.proofs.Laws.Written.{halves-value, halves-condition}
use Rattle.rules.specs.Laws.WrittenEvents.{EventShape}

module _ (measures : ℕ) (few : measures < 4_294_967_296) where
  -- of this kind and job
  abbrev Kind : ℕ → ℕ → Event → Type 0
  Kind kind job e = (EventShape e × (event_kind e ≡ kind)) × (event_job e ≡ job)

  -- a record of kind and job alone
  halves-bare : (make : ℕ → Event) (kind job : ℕ) → ((e : Event) → event_kind e ≡ kind → make (event_job e) ≡ e) → ((j : ℕ) → (EventShape (make j) × (event_kind (make j) ≡ kind)) × (event_job (make j) ≡ j)) →
      ((j : ℕ) → write_rest measures (make j) ≡ written []) → Halves (Kind kind job) (pure (make job)) (write_rest measures)
  halves-bare make kind job made makes bare =
      let is : (e : Event) → Kind kind job e → e ≡ make job = λ e q. sym (made e q.0.1) ∙ ap make q.1 in
      halves-writer (λ e q. ap (write_rest measures) (is e q) ∙ bare job)
      (halves-same (λ e d. subst (Kind kind job) (sym d) (makes job)) is (halves-pure (make job)))

  variable_of : Event → ℕ
  variable_of (assign job v x) = v
  variable_of (arrive job) = 0
  variable_of (admit job) = 0
  variable_of (wait job l g) = 0
  variable_of (leave job) = 0

  value_of : Event → ℤ
  value_of (assign job v x) = x
  value_of (arrive job) = pos 0
  value_of (admit job) = pos 0
  value_of (wait job l g) = pos 0
  value_of (leave job) = pos 0

  locals_of : Event → List ℤ
  locals_of (wait job l g) = l
  locals_of (arrive job) = []
  locals_of (admit job) = []
  locals_of (assign job v x) = []
  locals_of (leave job) = []

  condition_of : Event → List (List Given)
  condition_of (wait job l g) = g
  condition_of (arrive job) = []
  condition_of (admit job) = []
  condition_of (assign job v x) = []
  condition_of (leave job) = []

  is-arrive : (e : Event) → event_kind e ≡ 1 → arrive (event_job e) ≡ e
  is-arrive (arrive job) d = refl
  is-arrive (admit job) d = absurd (omega (arith, d))
  is-arrive (assign job v x) d = absurd (omega (arith, d))
  is-arrive (wait job l g) d = absurd (omega (arith, d))
  is-arrive (leave job) d = absurd (omega (arith, d))

  is-admit : (e : Event) → event_kind e ≡ 2 → admit (event_job e) ≡ e
  is-admit (admit job) d = refl
  is-admit (arrive job) d = absurd (omega (arith, d))
  is-admit (assign job v x) d = absurd (omega (arith, d))
  is-admit (wait job l g) d = absurd (omega (arith, d))
  is-admit (leave job) d = absurd (omega (arith, d))

  is-leave : (e : Event) → event_kind e ≡ 5 → leave (event_job e) ≡ e
  is-leave (leave job) d = refl
  is-leave (arrive job) d = absurd (omega (arith, d))
  is-leave (admit job) d = absurd (omega (arith, d))
  is-leave (assign job v x) d = absurd (omega (arith, d))
  is-leave (wait job l g) d = absurd (omega (arith, d))

  is-assign : (e : Event) → event_kind e ≡ 3 → assign (event_job e) (variable_of e) (value_of e) ≡ e
  unfolding variable_of value_of
  is-assign (assign job v x) d = refl
  is-assign (arrive job) d = absurd (omega (arith, d))
  is-assign (admit job) d = absurd (omega (arith, d))
  is-assign (wait job l g) d = absurd (omega (arith, d))
  is-assign (leave job) d = absurd (omega (arith, d))

  is-wait : (e : Event) → event_kind e ≡ 4 → wait (event_job e) (locals_of e) (condition_of e) ≡ e
  unfolding locals_of condition_of
  is-wait (wait job l g) d = refl
  is-wait (arrive job) d = absurd (omega (arith, d))
  is-wait (admit job) d = absurd (omega (arith, d))
  is-wait (assign job v x) d = absurd (omega (arith, d))
  is-wait (leave job) d = absurd (omega (arith, d))

  wait-shape : (e : Event) → EventShape e → event_kind e ≡ 4 → Many Any locals (locals_of e) × ConditionShape (condition_of e)
  unfolding locals_of condition_of
  wait-shape (wait job l g) s d = s
  wait-shape (arrive job) s d = absurd (omega (arith, d))
  wait-shape (admit job) s d = absurd (omega (arith, d))
  wait-shape (assign job v x) s d = absurd (omega (arith, d))
  wait-shape (leave job) s d = absurd (omega (arith, d))

  halves-assign : (job : ℕ) → Halves (Kind 3 job) (below variables >>= λ v. value >>= λ x. pure (assign job v x)) (write_rest measures)
  unfolding variable_of value_of
  halves-assign job =
      halves-writer (λ e q. ap (write_rest measures) (sym (is-assign e q.0.1)))
      (halves-then variable_of (below variables) (write_below variables) _ _ (λ e q. tt) (halves-below variables (omega arith))
      (λ v _. halves-last value_of (λ x. assign job v x) value write_value (λ e q. tt)
      (λ e q. (λ i. assign (sym q.0.1 i) (sym q.1 i) (value_of e)) ∙ is-assign e q.0.0.1)
      (λ x _. ((((tt, refl), refl), refl), refl)) halves-value))

  halves-wait : (job : ℕ) → Halves (Kind 4 job) (times locals value >>= λ l. condition measures >>= λ g. pure (wait job l g)) (write_rest measures)
  unfolding locals_of condition_of
  halves-wait job =
      halves-writer (λ e q. ap (write_rest measures) (sym (is-wait e q.0.1)))
      (halves-then locals_of (times locals value) (all-written write_value) _ _ (λ e q. (wait-shape e q.0.0 q.0.1).0) (halves-times value write_value halves-value locals)
      (λ l f. halves-last condition_of (λ g. wait job l g) (condition measures) (write_condition measures) (λ e q. (wait-shape e q.0.0.0 q.0.0.1).1)
      (λ e q. (λ i. wait (sym q.0.1 i) (sym q.1 i) (condition_of e)) ∙ is-wait e q.0.0.1)
      (λ g h. (((((f, h), refl), refl), refl), refl)) (halves-condition measures few)))

  halves-if : {A : Type 0} {P : A → Type 0} {w : A → Written} (t : Bool) (p q : Reader A) → (t ≡ true → Halves P p w) → (t ≡ false → Halves P q w) → Halves P (if t then p else q) w
  halves-if true p q f g = f refl
  halves-if false p q f g = g refl

  halves-kind : (kind job : ℕ) → 1 ≤ kind → kind ≤ 5 → Halves (Kind kind job) (of_kind measures kind job) (write_rest measures)
  halves-kind kind job l h =
      halves-if (eqb kind 1) _ _ (λ t. subst (λ k. Halves (Kind k job) (pure (arrive job)) (write_rest measures)) (sym (eqb-true kind 1 t)) (halves-bare arrive 1 job is-arrive (λ j. ((tt, refl), refl)) (λ j. refl)))
      (λ a. halves-if (eqb kind 2) _ _ (λ t. subst (λ k. Halves (Kind k job) (pure (admit job)) (write_rest measures)) (sym (eqb-true kind 2 t)) (halves-bare admit 2 job is-admit (λ j. ((tt, refl), refl)) (λ j. refl)))
      (λ b. halves-if (eqb kind 3) _ _ (λ t. subst (λ k. Halves (Kind k job) (below variables >>= λ v. value >>= λ x. pure (assign job v x)) (write_rest measures)) (sym (eqb-true kind 3 t)) (halves-assign job))
      (λ c. halves-if (eqb kind 4) _ _ (λ t. subst (λ k. Halves (Kind k job) (times locals value >>= λ l. condition measures >>= λ g. pure (wait job l g)) (write_rest measures)) (sym (eqb-true kind 4 t)) (halves-wait job))
      (λ d. subst (λ k. Halves (Kind k job) (pure (leave job)) (write_rest measures)) (sym (omega (arith, l, h, apart kind 1 a, apart kind 2 b, apart kind 3 c, apart kind 4 d)))
      (halves-bare leave 5 job is-leave (λ j. ((tt, refl), refl)) (λ j. refl))))))
    where
      apart : (m n : ℕ) → eqb m n ≡ false → m ≡ n → ⊥
      apart m n e d = let z : true ≡ false = sym (eq-eqb m n d) ∙ e in let y : ◌≡◌ {A = ℕ} 0 1 = cc in omega arith

  kinds : (e : Event) → (1 ≤ event_kind e) × (event_kind e ≤ 5)
  kinds (arrive job) = (omega arith, omega arith)
  kinds (admit job) = (omega arith, omega arith)
  kinds (assign job v x) = (omega arith, omega arith)
  kinds (wait job l g) = (omega arith, omega arith)
  kinds (leave job) = (omega arith, omega arith)

  pub halves-event : Halves EventShape (event measures) (write_fields measures)
  halves-event =
      halves-then event_kind (field 3 1 kind_most) (write_field 3 1 kind_most) _ _ (λ e q. kinds e) (halves_range 3 1 kind_most (omega arith))
      (λ kind f. halves-then event_job (below jobs) (write_below jobs) (of_kind measures kind) (write_rest measures) (λ e q. tt) (halves-below jobs (omega arith)) (λ job _. halves-kind kind job f.0 f.1))

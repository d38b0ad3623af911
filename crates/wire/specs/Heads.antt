-- The head of an event, as the code reads it, and that with a Wait's numbers it is the rules' event.
use Rattle.std.specs.Prelude.{◌≡◌, refl, List, [], ◌∷◌, ℕ, ◌≤◌, ◌<◌, eqb, ℤ, length, drop, if◌then◌else◌, Option, Some, None, Result, Ok}
use Rattle.std.specs.Prelude.{Err}
use Rattle.std.proofs.Common.{sym, ap, ◌∙◌, arith, ne_eqb, drop_of_length-le, drop-cons}
use Rattle.rules.specs.Limits.{jobs, variables, value_most, kind_most}
use Rattle.rules.specs.Number.{Read, read, refused, number, field, below, signed_field}
use Rattle.rules.specs.Laws.Readers.{SoundReader, sound-field, sound-below, sound-signed}
use Rattle.fields.specs.Answers.{place_of, as_answer, numbered, FieldAnswer}
use Rattle.fields.specs.Fields.{field-numbered}
use Rattle.fields.specs.Refusals.{refusal_number}
use Rattle.fields.specs.Places.{place_after, answer_read, answer-refused}
use Rattle.fields.specs.declared.refusal.Refusal.{Refusal}
use Rattle.fields.specs.declared.refusal.Refusal.TheVariants.{Unknown}
use Rattle.wire.specs.declared.head.Kind.{Kind}
use Rattle.wire.specs.declared.head.Kind.TheVariants.{Arrive, Admit, Set, Wait, Leave}
use Rattle.wire.specs.declared.head.Head.{Head}

abbrev pub head : Kind → ℕ → ℕ → Head
head kind job next = record { kind = kind; job = job; next = next }

-- a head where one was to be read
abbrev pub there : Result Head ℕ → Result (Option Head) ℕ
there (Ok h) = Ok (Some h)
there (Err k) = Err k

-- in these bytes, of which those from some place on are left
module _ (bytes : List ℕ) where
  abbrev pub value_read : ℕ → ℕ → Read ℤ → Result Head ℕ
  value_read job variable (read value rest) = Ok (head (Set variable value) job (place_of bytes rest))
  value_read job variable (refused k) = Err k

  abbrev pub variable_read : ℕ → Read ℕ → Result Head ℕ
  variable_read job (read variable rest) = value_read job variable (signed_field value_most rest)
  variable_read job (refused k) = Err k

  -- a Set's variable and value
  abbrev pub set_head : ℕ → List ℕ → Result Head ℕ
  set_head job left = variable_read job (below variables left)

  -- by kind: 1 Arrive, 2 Admit, 3 Set, 4 Wait, 5 Leave
  abbrev pub job_read : ℕ → Read ℕ → Result Head ℕ
  job_read kind (read job rest) =
      if eqb kind 1 then Ok (head Arrive job (place_of bytes rest))
      else if eqb kind 2 then Ok (head Admit job (place_of bytes rest))
      else if eqb kind 3 then set_head job rest
      else if eqb kind 4 then Ok (head Wait job (place_of bytes rest))
      else Ok (head Leave job (place_of bytes rest))
  job_read kind (refused k) = Err k

  abbrev pub kind_read : Read ℕ → Result Head ℕ
  kind_read (read kind rest) = job_read kind (below jobs rest)
  kind_read (refused k) = Err k

  abbrev pub head_at : List ℕ → Result (Option Head) ℕ
  head_at [] = Ok None
  head_at (b ∷ left) = there (kind_read (field 3 1 kind_most (b ∷ left)))

-- ---- a Set, as the code reads it
module _ (bytes : List ℕ) (at job : ℕ) {answer : Result (ℕ × ℕ) Refusal}
    (from : numbered answer ≡ as_answer bytes (below variables (drop at bytes))) where
  pub set-no-variable : {e : Refusal} → answer ≡ Err e → Err (refusal_number e) ≡ set_head bytes job (drop at bytes)
  set-no-variable got = rw (answer-refused (sound-below variables) bytes at from got) refl

  module _ {p : ℕ × ℕ} (got : answer ≡ Ok p) where
    variable-is : below variables (drop at bytes) ≡ read p.0 (drop p.1 bytes)
    variable-is = (answer_read (sound-below variables) bytes at from got).0

    module _ {amount : Result (ℤ × ℕ) Refusal}
        (next-from : numbered amount ≡ as_answer bytes (signed_field value_most (drop p.1 bytes))) where
      pub set-no-value : {e : Refusal} → amount ≡ Err e → Err (refusal_number e) ≡ set_head bytes job (drop at bytes)
      set-no-value is = rw (variable-is, answer-refused (sound-signed value_most) bytes p.1 next-from is) refl

      -- y is what the machine has for the value
      pub set-read : {y : ℤ} {q : ℤ × ℕ} → amount ≡ Ok q → y ≡ q.0 → Ok (head (Set p.0 y) job q.1) ≡ set_head bytes job (drop at bytes)
      set-read {y} {q} is e =
          let r = answer_read (sound-signed value_most) bytes p.1 next-from is in
          rw (variable-is, r.0) (λ i. Ok (head (Set p.0 (e i)) job (sym (place_after bytes q.1 r.1) i)))

-- ---- any head
pub head-none : (bytes : List ℕ) (at : ℕ) → length bytes ≤ at → Ok None ≡ head_at bytes (drop at bytes)
head-none bytes at h = rw (drop_of_length-le bytes {i = at} h)

kinds : SoundReader 1 (λ n. (1 ≤ n) × (n ≤ kind_most)) (field 3 1 kind_most)
kinds = sound-field 3 1 kind_most (omega arith) (omega arith)

module _ (bytes : List ℕ) (at : ℕ) (some_left : at < length bytes) where
  not_none : head_at bytes (drop at bytes) ≡ there (kind_read bytes (field 3 1 kind_most (drop at bytes)))
  not_none = rw (drop-cons bytes at 0 some_left) refl

  module _ (answer : Result (ℕ × ℕ) Refusal)
      (says : FieldAnswer (λ j e. e ≡ j) bytes Unknown 1 kind_most (number (drop at bytes)) answer) where
    from : numbered answer ≡ as_answer bytes (field 3 1 kind_most (drop at bytes))
    from = field-numbered bytes (drop at bytes) 1 kind_most Unknown answer says

    pub head-no-kind : {e : Refusal} → answer ≡ Err e → Err (refusal_number e) ≡ head_at bytes (drop at bytes)
    head-no-kind got = rw (not_none, answer-refused kinds bytes at from got) refl

    module _ {p : ℕ × ℕ} (got : answer ≡ Ok p) where
      kind-is : head_at bytes (drop at bytes) ≡ there (job_read bytes p.0 (below jobs (drop p.1 bytes)))
      kind-is = not_none ∙ ap (λ x. there (kind_read bytes x)) (answer_read kinds bytes at from got).0

      module _ {second : Result (ℕ × ℕ) Refusal} (next-from : numbered second ≡ as_answer bytes (below jobs (drop p.1 bytes))) where
        pub head-no-job : {e : Refusal} → second ≡ Err e → Err (refusal_number e) ≡ head_at bytes (drop at bytes)
        head-no-job is = rw (kind-is, answer-refused (sound-below jobs) bytes p.1 next-from is) refl

        module _ {q : ℕ × ℕ} (is : second ≡ Ok q) where
          job_is : head_at bytes (drop at bytes) ≡ there (job_read bytes p.0 (read q.0 (drop q.1 bytes)))
          job_is = kind-is ∙ ap (λ x. there (job_read bytes p.0 x)) (answer_read (sound-below jobs) bytes p.1 next-from is).0

          place_is : place_of bytes (drop q.1 bytes) ≡ q.1
          place_is = place_after bytes q.1 (answer_read (sound-below jobs) bytes p.1 next-from is).1

          pub head-arrive : p.0 ≡ 1 → Ok (Some (head Arrive q.0 q.1)) ≡ head_at bytes (drop at bytes)
          head-arrive a = rw (job_is, a, place_is) refl

          pub head-admit : p.0 ≡ 2 → Ok (Some (head Admit q.0 q.1)) ≡ head_at bytes (drop at bytes)
          head-admit a = rw (job_is, a, place_is) refl

          pub head-set : p.0 ≡ 3 → {r : Result Head ℕ} {h : Result (Option Head) ℕ} → r ≡ set_head bytes q.0 (drop q.1 bytes) →
              h ≡ there r → h ≡ head_at bytes (drop at bytes)
          head-set a e h = h ∙ ap there e ∙ rw (job_is, a) refl

          pub head-wait : p.0 ≡ 4 → Ok (Some (head Wait q.0 q.1)) ≡ head_at bytes (drop at bytes)
          head-wait a = rw (job_is, a, place_is) refl

          pub head-leave : (p.0 ≡ 1 → ⊥) → (p.0 ≡ 2 → ⊥) → (p.0 ≡ 3 → ⊥) → (p.0 ≡ 4 → ⊥) →
              Ok (Some (head Leave q.0 q.1)) ≡ head_at bytes (drop at bytes)
          head-leave a b c d = rw (job_is, ne_eqb p.0 1 a, ne_eqb p.0 2 b, ne_eqb p.0 3 c, ne_eqb p.0 4 d, place_is) refl

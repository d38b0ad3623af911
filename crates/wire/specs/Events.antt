-- An event is read in two parts, its head and, of a Wait, its numbers: together they are the rules' event, on every byte string from any
-- place.
use Rattle.std.specs.Prelude.{◌≡◌, refl, Bool, true, false, List, [], ◌∷◌, ℕ, ◌≤◌, eqb, ℤ, length, drop, if◌then◌else◌, Option, Some}
use Rattle.std.specs.Prelude.{None, Result, Ok, Err}
use Rattle.std.proofs.Common.{sym, ap, ◌∙◌, arith}
use Rattle.rules.specs.Limits.{jobs, variables, value_most, kind_most, locals}
use Rattle.rules.specs.Number.{Read, read, refused, pure, after, times, field, below, signed_field}
use Rattle.rules.specs.Condition.{Given}
use Rattle.rules.specs.Record.{value, condition, of_kind, event}
use Rattle.rules.specs.Step.{Event, arrive, admit, assign, wait, leave}
use Rattle.rules.specs.Laws.Readers.{SoundReader, sound-field, sound-below, sound-signed}
use Rattle.fields.specs.Answers.{place_of}
use Rattle.wire.specs.Heads.{head, there, head_at, kind_read, job_read, set_head, variable_read, value_read}
use Rattle.fields.specs.Places.{at_place}
use Rattle.wire.specs.WaitSlots.{Body, numbers}
use Rattle.wire.specs.declared.head.Kind.{Kind}
use Rattle.wire.specs.declared.head.Kind.TheVariants.{Arrive, Admit, Set, Wait, Leave}
use Rattle.wire.specs.declared.head.Head.{Head}

-- an event that was read, and what stands from the next place on
abbrev ReadEvent : ℕ → List ℕ → List ℕ → Event → ℕ → Type 0
ReadEvent measures bytes left e next = (event measures left ≡ read e (drop next bytes)) × (next ≤ length bytes)

-- what a head's kind says of the rules' event in the bytes that are left, for a room with so many measures
abbrev pub KindMeans : ℕ → List ℕ → List ℕ → ℕ → ℕ → Kind → Type 0
KindMeans measures bytes left j next Arrive = ReadEvent measures bytes left (arrive j) next
KindMeans measures bytes left j next Admit = ReadEvent measures bytes left (admit j) next
KindMeans measures bytes left j next (Set v x) = ReadEvent measures bytes left (assign j v x) next
KindMeans measures bytes left j next Wait = (event measures left ≡ after (numbers measures (drop next bytes))
    (λ b. pure (wait j b.locals b.condition))) × (next ≤ length bytes)
KindMeans measures bytes left j next Leave = ReadEvent measures bytes left (leave j) next

-- what a head says of it
abbrev pub HeadMeans : ℕ → List ℕ → List ℕ → Result (Option Head) ℕ → Type 0
HeadMeans measures bytes left (Ok (Some h)) = KindMeans measures bytes left h.job h.next h.kind
HeadMeans measures bytes left (Ok None) = left ≡ []
HeadMeans measures bytes left (Err k) = event measures left ≡ refused k

-- the Wait's numbers, read field by field, are the head of a Wait and its body
wait-is : (measures j : ℕ) (l : List ℕ) → after (times locals value l) (λ v rest. after (condition measures rest) (λ g. pure (wait j v g))) ≡ after (numbers measures l) (λ b. pure (wait j b.locals b.condition))
wait-is measures j l = go (times locals value l)
  where
    inner : (v : List ℤ) (y : Read (List (List Given))) → after y (λ g. pure (wait j v g)) ≡ after (after y (λ g. pure (record { locals = v; condition = g }))) (λ (b : Body). pure (wait j b.locals b.condition))
    inner v (read g rest) = refl
    inner v (refused k) = refl

    go : (x : Read (List ℤ)) → after x (λ v rest. after (condition measures rest) (λ g. pure (wait j v g))) ≡ after (after x (λ v rest. after (condition measures rest) (λ g. pure (record { locals = v; condition = g })))) (λ (b : Body). pure (wait j b.locals b.condition))
    go (read v rest) = inner v (condition measures rest)
    go (refused k) = refl

module _ (measures : ℕ) (bytes : List ℕ) (at : ℕ) where
  abbrev left : List ℕ
  left = drop at bytes

  -- what is left after a field, at its place
  stands_at : {k : ℕ} {P : ℕ → Type 0} {p : List ℕ → Read ℕ} (s : SoundReader k P p) (from : ℕ) {n : ℕ} {rest : List ℕ} → p (drop from bytes) ≡ read n rest → (rest ≡ drop (place_of bytes rest) bytes) × (place_of bytes rest ≤ length bytes)
  stands_at s from {n} {rest} d = (at_place bytes from (s.gives (drop from bytes) n rest d).1, omega arith)

  abbrev Means : Result Head ℕ → Type 0
  Means r = HeadMeans measures bytes left (there r)

  -- a Set's value, then its variable: `from` is where the field stands
  value-means : (job variable from : ℕ) (x : Read ℤ) → signed_field value_most (drop from bytes) ≡ x → event measures left ≡ after x (λ z. pure (assign job variable z)) → Means (value_read bytes job variable x)
  value-means job variable from (refused k) d e = e
  value-means job variable from (read z rest) d e = (e ∙ ap (read (assign job variable z)) (at_place bytes from ((sound-signed value_most).gives (drop from bytes) z rest d).1), omega arith)

  set-means : (job from : ℕ) (x : Read ℕ) → below variables (drop from bytes) ≡ x → event measures left ≡ after x (λ v rest. after (signed_field value_most rest) (λ z. pure (assign job v z))) → Means (variable_read bytes job x)
  set-means job from (refused k) d e = e
  set-means job from (read v rest) d e =
      let p = (stands_at (sound-below variables) from d).0 in
      value-means job v (place_of bytes rest) (signed_field value_most rest) (ap (signed_field value_most) (sym p)) e

  -- by kind, over the tests of the kind
  by_kind : (t₁ t₂ t₃ t₄ : Bool) (job : ℕ) (rest : List ℕ) → rest ≡ drop (place_of bytes rest) bytes → place_of bytes rest ≤ length bytes →
      event measures left
      ≡ (if t₁ then pure (arrive job)
      else if t₂ then pure (admit job)
      else if t₃ then (λ l. after (below variables l) (λ v more. after (signed_field value_most more) (λ z. pure (assign job v z))))
      else if t₄ then (λ l. after (times locals value l) (λ v more. after (condition measures more) (λ g. pure (wait job v g))))
      else pure (leave job)) rest →
      Means (
      if t₁ then Ok (head Arrive job (place_of bytes rest))
      else if t₂ then Ok (head Admit job (place_of bytes rest))
      else if t₃ then set_head bytes job rest
      else if t₄ then Ok (head Wait job (place_of bytes rest))
      else Ok (head Leave job (place_of bytes rest))
      )
  by_kind true t₂ t₃ t₄ job rest p w e = (e ∙ ap (read (arrive job)) p, w)
  by_kind false true t₃ t₄ job rest p w e = (e ∙ ap (read (admit job)) p, w)
  by_kind false false true t₄ job rest p w e = set-means job (place_of bytes rest) (below variables rest) (ap (below variables) (sym p)) e
  by_kind false false false true job rest p w e = (e ∙ wait-is measures job rest ∙ ap (λ l. after (numbers measures l) (λ b. pure (wait job b.locals b.condition))) p, w)
  by_kind false false false false job rest p w e = (e ∙ ap (read (leave job)) p, w)

  job-means : (kind from : ℕ) (x : Read ℕ) → below jobs (drop from bytes) ≡ x → event measures left ≡ after x (λ job. of_kind measures kind job) → Means (job_read bytes kind x)
  job-means kind from (refused k) d e = e
  job-means kind from (read job rest) d e =
      let p = stands_at (sound-below jobs) from d in
      by_kind (eqb kind 1) (eqb kind 2) (eqb kind 3) (eqb kind 4) job rest p.0 p.1 e

  kind-means : (x : Read ℕ) → field 3 1 kind_most left ≡ x → event measures left ≡ after x (λ kind rest. after (below jobs rest) (λ job. of_kind measures kind job)) → Means (kind_read bytes x)
  kind-means (refused k) d e = e
  kind-means (read kind rest) d e =
      let p = (stands_at (sound-field 3 1 kind_most (omega arith) (omega arith)) at d).0 in
      job-means kind (place_of bytes rest) (below jobs rest) (ap (below jobs) (sym p)) e

  from-left : (l : List ℕ) → left ≡ l → HeadMeans measures bytes left (head_at bytes l)
  from-left [] e = e
  from-left (b ∷ l) e = kind-means (field 3 1 kind_most (b ∷ l)) (ap (field 3 1 kind_most) e) (ap (event measures) e)

  pub head-means : HeadMeans measures bytes left (head_at bytes left)
  head-means = from-left left refl

-- What every record that is read, and every closed condition, keeps to: document 01's ranges. A key is a sum of four products and
-- a constant, so it stays within its own range.
use Rattle.std.specs.Prelude.{◌≡◌, refl, List, [], ◌∷◌, map, ℕ, ◌≤◌, ◌<◌, ℤ, length, eqb, Bool, true, false, if◌then◌else◌}
use Rattle.std.proofs.Common.{arith}
use Rattle.std.proofs.lemmas.List.{length-map}
use Rattle.rules.specs.Limits.{jobs, variables, measures_most, value_most, coefficient_most, locals, parts_most, kind_most, operator_most, measure_most, key_most}
use Rattle.rules.specs.Number.{Reader, field, below, times}
use Rattle.rules.specs.Condition.{Given, Atom, Condition, close, closure}
use Rattle.rules.specs.Room.{Room, opened, measured}
use Rattle.rules.specs.Step.{Event, arrive, admit, assign, wait, leave}
use Rattle.rules.specs.Record.{value, coefficient, counted, opening, atom, condition, of_kind, event}
use Rattle.rules.specs.Laws.Bounds.{Within, Each, in-add, within_more, products-within}
use Rattle.rules.specs.Laws.Readers.{SoundReader, sound-pure, sound-less, sound-then, sound-times, sound-field, sound-below, sound-signed}

-- so many numbers, each within a bound
abbrev pub Numbers : ℕ → ℕ → List ℤ → Type 0
Numbers count most l = (length l ≡ count) × Each (Within most) l

-- one to four, each of them so
abbrev pub Parts : {A : Type 0} → (A → Type 0) → List A → Type 0
Parts P l = ((1 ≤ length l) × (length l ≤ parts_most)) × Each P l

-- ---- of a room with this many measures
module _ (measures : ℕ) where
  pub record GivenFits (a : Given) : Type 0 where
    pub measure : a.measure < measures
    pub operator : (1 ≤ a.operator) × (a.operator ≤ operator_most)
    pub coefficients : Numbers locals coefficient_most a.coefficients
    pub constant : Within value_most a.constant

  pub record AtomFits (a : Atom) : Type 0 where
    pub measure : a.measure < measures
    pub operator : (1 ≤ a.operator) × (a.operator ≤ operator_most)
    pub key : Within key_most a.key

  abbrev pub ConditionFits : Condition → Type 0
  ConditionFits = Parts (Parts AtomFits)

  abbrev pub EventFits : Event → Type 0
  EventFits (arrive j) = j < jobs
  EventFits (admit j) = j < jobs
  EventFits (leave j) = j < jobs
  EventFits (assign j v x) = (j < jobs) × (v < variables) × Within value_most x
  EventFits (wait j l g) = (j < jobs) × Numbers locals value_most l × Parts (Parts GivenFits) g

-- ---- closure keeps the ranges
pub key_fits : (l : List ℤ) (a : Given) → Numbers locals value_most l → Numbers locals coefficient_most a.coefficients → Within value_most a.constant → Within key_most (close l a).key
key_fits l a h c k =
    let p = products-within coefficient_most value_most a.coefficients l c.1 h.1 in
    within_more (in-add p k) (rw c.0 (omega arith))

pub measure-fits : (values coefficients : List ℤ) → Numbers variables value_most values → Numbers variables coefficient_most coefficients → Within measure_most (measured values coefficients)
measure-fits values coefficients v c = within_more (products-within coefficient_most value_most coefficients values c.1 v.1) (rw c.0 (omega arith))

each_map : {A B : Type 0} (P : A → Type 0) (Q : B → Type 0) (f : A → B) → ((a : A) → P a → Q (f a)) → (l : List A) → Each P l → Each Q (map f l)
each_map P Q f h [] e = tt
each_map P Q f h (a ∷ l) e = (h a e.0, each_map P Q f h l e.1)

parts-map : {A B : Type 0} (P : A → Type 0) (Q : B → Type 0) (f : A → B) → ((a : A) → P a → Q (f a)) → (l : List A) → Parts P l → Parts Q (map f l)
parts-map P Q f h l e = ((rw (length-map l f) e.0.0, rw (length-map l f) e.0.1), each_map P Q f h l e.1)

pub closure-fits : (n : ℕ) (l : List ℤ) (g : List (List Given)) → Numbers locals value_most l → Parts (Parts (GivenFits n)) g → ConditionFits n (closure l g)
closure-fits n l g h e = parts-map (Parts (GivenFits n)) (Parts (AtomFits n)) (map (close l)) (λ a. parts-map (GivenFits n) (AtomFits n) (close l) one a) g e
  where
    one : (a : Given) → GivenFits n a → AtomFits n (close l a)
    one a f = record { measure = f.measure; operator = f.operator; key = key_fits l a h f.coefficients f.constant }

-- ---- so do the readers
pub sound-counted : {A : Type 0} {P : A → Type 0} {k : ℕ} (p : Reader A) → SoundReader k P p → SoundReader 1 (Parts P) (counted p)
sound-counted p s = sound-then {m = 0} (field 4 1 parts_most) _ (sound-field 4 1 parts_most (omega arith) (omega arith)) (λ n h. sound-less (omega arith) (λ l e. ((omega (arith, h.0, e.0), omega (arith, h.1, e.0)), e.1)) (sound-times p s n))

pub sound-value : SoundReader 1 (Within value_most) value
sound-value = sound-signed value_most

pub sound-coefficient : SoundReader 1 (Within coefficient_most) coefficient
sound-coefficient = sound-signed coefficient_most

module _ (n : ℕ) where
  pub sound-atom : SoundReader 3 (GivenFits n) (atom n)
  sound-atom = sound-then (below n) _ (sound-below n) (λ m f. sound-then (field 3 1 operator_most) _ (sound-field 3 1 operator_most (omega arith) (omega arith))
      (λ o g. sound-then (times locals coefficient) _ (sound-times coefficient sound-coefficient locals) (λ c h. sound-then value _ sound-value
      (λ k i. sound-pure _ (record { measure = f; operator = g; coefficients = h; constant = i })))))

  pub sound-condition : SoundReader 1 (Parts (Parts (GivenFits n))) (condition n)
  sound-condition = sound-counted (counted (atom n)) (sound-counted (atom n) sound-atom)

  sound-if : {A : Type 0} {P : A → Type 0} {k : ℕ} (t : Bool) (p q : Reader A) → SoundReader k P p → SoundReader k P q → SoundReader k P (if t then p else q)
  sound-if true p q s u = s
  sound-if false p q s u = u

  sound-kind : (kind j : ℕ) → j < jobs → SoundReader 0 (EventFits n) (of_kind n kind j)
  sound-kind kind j h = sound-if (eqb kind 1) _ _ (sound-pure (arrive j) h)
      (sound-if (eqb kind 2) _ _ (sound-pure (admit j) h)
      (sound-if (eqb kind 3) _ _ (sound-less (omega arith) (λ a e. e) (sound-then (below variables) _ (sound-below variables) (λ v f. sound-then value _ sound-value (λ x g. sound-pure (assign j v x) (h, f, g)))))
      (sound-if (eqb kind 4) _ _ (sound-less (omega arith) (λ a e. e) (sound-then (times locals value) _ (sound-times value sound-value locals) (λ l f. sound-then (condition n) _ sound-condition (λ g i. sound-pure (wait j l g) (h, f, i)))))
      (sound-pure (leave j) h))))

  pub sound-event : SoundReader 2 (EventFits n) (event n)
  sound-event = sound-then (field 3 1 kind_most) _ (sound-field 3 1 kind_most (omega arith) (omega arith)) (λ kind f. sound-then (below jobs) _ (sound-below jobs) (λ j h. sound-kind kind j h))

-- an accepted opening's numbers
pub record Opening (r : Room) : Type 0 where
  pub measures : List (List ℤ)
  pub values : List ℤ
  pub counted : (1 ≤ length measures) × (length measures ≤ measures_most)
  pub coefficients : Each (Numbers variables coefficient_most) measures
  pub shared : Numbers variables value_most values
  pub is : r ≡ opened measures values

pub sound-opening : SoundReader 1 Opening opening
sound-opening = sound-then (field 4 1 measures_most) _ (sound-field 4 1 measures_most (omega arith) (omega arith)) (λ n f.
    sound-then (times n (times variables coefficient)) _ (sound-times (times variables coefficient) (sound-times coefficient sound-coefficient variables) n) (λ m g.
    sound-then (times variables value) _ (sound-times value sound-value variables) (λ v h.
    sound-pure (opened m v) (record { measures = m; values = v; counted = (omega (arith, f.0, g.0), omega (arith, f.1, g.0)); coefficients = g.1; shared = h; is = refl }))))

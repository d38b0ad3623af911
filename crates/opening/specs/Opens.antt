-- What an opening leaves in the arrays: the coefficients and values that were read, and 0 everywhere else. Nobody waits, so they keep what events need; after a refusal they are no room.
use Rattle.std.specs.Prelude.{◌≡◌, refl, List, [], ◌∷◌, ℕ, zero, suc, ℤ, pos, get_or, length, replicate, Result, Ok, Err}
use Rattle.std.proofs.Common.{sym, ap, ◌∙◌, subst, arith}
use Rattle.std.proofs.lemmas.List.{length-replicate}
use Rattle.rules.specs.Limits.{value_most, coefficient_most, key_most}
use Rattle.rules.specs.Number.{read, refused}
use Rattle.rules.specs.Record.{opening}
use Rattle.rules.specs.Room.{Room, outside, opened, no_room}
use Rattle.rules.specs.Laws.Bounds.{Within}
use Rattle.rules.specs.Laws.WellFormed.{Opening, sound-opening}
use Rattle.rules.specs.Demands.Invariant.{Invariant}
use Rattle.rules.proofs.Demands.Invariant.{opening-has}
use Rattle.fields.specs.Answers.{place_of, numbered}
use Rattle.fields.specs.declared.refusal.Refusal.{Refusal}
use Rattle.wire.specs.Openings.{slots, as_opening, coefficients_of, values_of}
use Rattle.wire.specs.Rows.{flat}
use Rattle.condition.specs.From.{from}
use Rattle.condition.specs.Closing.{closed_slots}
use Rattle.condition.specs.Measures.{AllIn}
use Rattle.room.specs.Arrays.{Arrays, arrays, standing_at, measure_row, room_of}
pub use Rattle.room.specs.Rooms.{no_conditions, empty_with}
use Rattle.room.specs.Kept.{Sizes, Sound, Kept}
use Rattle.opening.specs.OpensNobody.{everywhere, zeros, long, index-of-nobody}
use Rattle.opening.specs.OpensRows.{rows_back, slots-long, slots-in, slots-past, all_in}

-- the measure count of an answer
abbrev pub measures_in : Result (ℕ × ℕ) Refusal → ℕ
measures_in (Ok p) = p.0
measures_in (Err e) = 0

-- what the contract says of an answer and of the arrays, with its measure count and the next ticket 0. It is all equations: any two answers that it allows are the same, and so are
-- the arrays.
abbrev pub Opens : List ℕ → Result (ℕ × ℕ) Refusal → Arrays → Type 0
Opens bytes r a =
    (numbered r ≡ as_opening bytes (opening bytes))
    × (a ≡ empty_with (coefficients_of (opening bytes)) (values_of (opening bytes)) (measures_in r))

-- array by array
pub opens : (bytes : List ℕ) (r : Result (ℕ × ℕ) Refusal) {coefficients values key : List ℤ}
    {standing ticket alternatives atoms measure operator entry high low places lengths : List ℕ} →
    (numbered r ≡ as_opening bytes (opening bytes)) × (coefficients ≡ coefficients_of (opening bytes)) × (values ≡ values_of (opening bytes)) →
    standing ≡ replicate 32 0 → ticket ≡ replicate 32 0 → alternatives ≡ replicate 32 0 → atoms ≡ replicate 128 0 →
    measure ≡ replicate 512 0 → operator ≡ replicate 512 0 → key ≡ replicate 512 (pos 0) →
    entry ≡ replicate 32 0 → high ≡ replicate 128 0 → low ≡ replicate 128 0 →
    places ≡ replicate 4352 0 → lengths ≡ replicate 34 0 →
    Opens bytes r (arrays coefficients values standing ticket (closed_slots alternatives atoms measure operator key)
    entry high low places lengths (measures_in r) 0)
opens bytes r o st ti al at me op ke en hi lo pl le = (
  o.0,
  λ i. arrays (o.1 i) (o.2 i) (st i) (ti i) (closed_slots (al i) (at i) (me i) (op i) (ke i))
      (en i) (hi i) (lo i) (pl i) (le i) (measures_in r) 0,
)

-- ---- everybody outside
all-outside : (a : Arrays) → ((j : ℕ) → get_or a.standing j 0 ≡ 0) → (n p : ℕ) → from (standing_at a) n p ≡ replicate n outside
all-outside a z zero p = refl
all-outside a z (suc n) p = let first : standing_at a p ≡ outside = rw (z p) refl in λ i. first i ∷ all-outside a z n (suc p) i

pub room-of-empty : (coefficients values : List ℤ) (measures : ℕ) → room_of (empty_with coefficients values measures) ≡ opened (from (measure_row coefficients) measures 0) values
room-of-empty coefficients values measures = λ i. record {
  measures = from (measure_row coefficients) measures 0;
  values = values;
  standings = all-outside (empty_with coefficients values measures) (zeros 32) 32 0 i;
  next_ticket = 0;
}

-- ---- an accepted opening
module _ {room : Room} (o : Opening room) where
  abbrev accepted : Arrays
  accepted = empty_with (slots 128 (flat o.measures)) o.values (length o.measures)

  opened-sizes : Sizes accepted
  opened-sizes = record {
    coefficients = slots-long coefficient_most o.measures o.counted.1 o.coefficients;
    values = o.shared.0;
    standing = long 32;
    ticket = long 32;
    slots = record { alternatives = long 32; atoms = long 128; measure = long 512; operator = long 512; key = length-replicate 512 (pos 0) };
    high = long 128;
    low = long 128;
  }

  keys_in : AllIn key_most (replicate 512 (pos 0))
  keys_in k = subst (Within key_most) (sym (everywhere (pos 0) 512 k)) (record { abs = omega arith })

  opened-sound : Sound accepted
  opened-sound = record {
    sizes = opened-sizes;
    fit = record { few = o.counted.1; measure = λ k. omega (arith, zeros 512 k, o.counted.0); operator = λ k. omega (arith, zeros 512 k); key = keys_in };
    some-measure = o.counted.0;
    ranges = record { coefficients = slots-in coefficient_most o.measures o.coefficients; values = all_in value_most o.values o.shared.1; keys = keys_in };
    zeros = slots-past coefficient_most o.measures o.coefficients;
    tickets = λ k. omega (arith, zeros 32 k);
    codes = λ j. omega (arith, zeros 32 j);
    index = index-of-nobody no_conditions (replicate 32 0) (replicate 32 0) (replicate 128 0) (replicate 128 0) (replicate 4352 0) (replicate 34 0) (zeros 32) (zeros 4352) (zeros 34)
        (long 32) (long 4352) (long 34);
    waits = λ j. rw (zeros 32 j) refl;
    apart = λ j k h. absurd (omega (arith, zeros 32 j));
    words = λ j h. absurd (omega (arith, zeros 32 j));
  }

  opened-room : room_of accepted ≡ room
  opened-room = room-of-empty (slots 128 (flat o.measures)) o.values (length o.measures) ∙ ap (λ m. opened m o.values) (rows_back coefficient_most o.measures o.coefficients) ∙ sym o.is

  opened-kept : Kept accepted
  opened-kept = record { sound = opened-sound; invariant = subst Invariant (sym opened-room) (opening-has o) }

-- ---- an answer by its numbers
numbered-ok : (r : Result (ℕ × ℕ) Refusal) {p : ℕ × ℕ} → numbered r ≡ Ok p → r ≡ Ok p
numbered-ok (Ok q) e = ap Ok cc
numbered-ok (Err k) e = let z : ◌≡◌ {A = ℕ} 0 1 = cc in absurd (omega arith)

no-measures : (r : Result (ℕ × ℕ) Refusal) {k : ℕ} → numbered r ≡ Err k → measures_in r ≡ 0
no-measures (Ok q) e = let z : ◌≡◌ {A = ℕ} 0 1 = cc in absurd (omega arith)
no-measures (Err k) e = refl

-- ---- what the two answers mean, of arrays and an answer that the contract allows
module _ (bytes : List ℕ) (r : Result (ℕ × ℕ) Refusal) (a : Arrays) (said : Opens bytes r a) where
  -- an accepted opening: the rules' room, and arrays that events may be given to
  pub opened-means : (room : Room) (rest : List ℕ) → opening bytes ≡ read room rest →
      (r ≡ Ok (length room.measures, place_of bytes rest)) × (room_of a ≡ room) × Kept a
  opened-means room rest e =
      let o = (sound-opening.gives bytes room rest e).0 in
      let answer = numbered-ok r (said.0 ∙ ap (as_opening bytes) e) in
      let same : a ≡ accepted o = said.1 ∙ (λ i. empty_with (coefficients_of (e i)) (values_of (e i)) (measures_in (answer i))) ∙ ap (λ q. empty_with (slots 128 (flat q.measures)) q.values (length q.measures)) o.is in
      (answer, ap room_of same ∙ opened-room o, subst Kept (sym same) (opened-kept o))

  -- a refused one: no room, and 0 everywhere
  pub refused-means : (k : ℕ) → opening bytes ≡ refused k →
      (numbered r ≡ Err k) × (a ≡ empty_with (replicate 128 (pos 0)) (replicate 8 (pos 0)) 0) × (room_of a ≡ no_room)
  refused-means k e =
      let answer : numbered r ≡ Err k = said.0 ∙ ap (as_opening bytes) e in
      let same : a ≡ empty_with (replicate 128 (pos 0)) (replicate 8 (pos 0)) 0 =
      said.1 ∙ (λ i. empty_with (coefficients_of (e i)) (values_of (e i)) (no-measures r answer i)) in
      (answer, same, ap room_of same ∙ room-of-empty (replicate 128 (pos 0)) (replicate 8 (pos 0)) 0)

-- "No bytes at all is refusal 1 for an opening"
pub no-bytes-refused : opening [] ≡ refused 1
no-bytes-refused = refl

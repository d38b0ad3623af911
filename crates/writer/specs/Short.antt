-- How long a record can be: a field has at most five bytes, so 685 for an opening and 615 for a Wait; the bytes that records are made in
-- have room for any.
use Rattle.std.specs.Prelude.{◌≡◌, ◌&&◌, List, [], ℕ, ◌+◌, ◌*◌, ◌≤◌, leb, ltb, ℤ, get_or, length}
use Rattle.std.proofs.Common.{ap, ◌∙◌, arith, length-append}
use Rattle.rules.specs.Step.{Event, arrive, admit, assign, wait, leave}
use Rattle.rules.specs.Writer.{written, all-written, write_field, write_below, write_coefficient, write_value, write_counted, write_atom, write_condition, event_kind, event_job, write_rest, write_event, write_opening}
use Rattle.rules.specs.Laws.Halves.{written_same, both-written}
use Rattle.condition.specs.From.{from, from-many}
use Rattle.writer.specs.Puts.{only-short, both-short, all_short, signed-short}
use Rattle.wire.specs.declared.given.Given.{Given as Slots}
use Rattle.writer.specs.Givens.{locals_of, atom_of, atom-short, alternative_of, condition_of, field-range, rows-all-short, counted-short}
use Rattle.writer.specs.Events.{write_head, head-short, event-parts}
use Rattle.writer.specs.Openings.{row_given, values_given}

event-short : (measures k : ℕ) (e : Event) → ((l : List ℕ) → write_rest measures e ≡ written l → length l ≤ k) → (l : List ℕ) →
    write_event measures e ≡ written l → length l ≤ 10 + k
event-short measures k e short l d =
    both-short 10 k (write_head measures (event_kind e) (event_job e)) (write_rest measures e)
    (head-short measures (event_kind e) (event_job e)) short l (event-parts measures e ∙ d)

none-short : (l : List ℕ) → written [] ≡ written l → length l ≤ 0
none-short l e = omega (arith, ap length (written_same e))

module _ (measures job : ℕ) where
  pub arrive-short : (l : List ℕ) → write_event measures (arrive job) ≡ written l → length l ≤ 704
  arrive-short l e = omega (arith, event-short measures 0 (arrive job) none-short l e)

  pub admit-short : (l : List ℕ) → write_event measures (admit job) ≡ written l → length l ≤ 704
  admit-short l e = omega (arith, event-short measures 0 (admit job) none-short l e)

  pub leave-short : (l : List ℕ) → write_event measures (leave job) ≡ written l → length l ≤ 704
  leave-short l e = omega (arith, event-short measures 0 (leave job) none-short l e)

  pub set-short : (v : ℕ) (x : ℤ) (l : List ℕ) → write_event measures (assign job v x) ≡ written l → length l ≤ 704
  set-short v x l e = omega (
    arith,
    event-short measures 10 (assign job v x)
        (both-short 5 5 (write_below 8 v) (write_value x) (only-short (ltb v 8) 4 v) (signed-short 1_000_000 x)) l e,
  )

  pub wait-short : (g : Slots) (count : ℕ) (l : List ℕ) → write_event measures (wait job (locals_of g) (condition_of g count)) ≡ written l →
      length l ≤ 704
  wait-short g count l e = omega (
    arith,
    event-short measures 605 (wait job (locals_of g) (condition_of g count))
        (both-short 20 585 (all-written write_value (locals_of g)) (write_condition measures (condition_of g count))
        (all_short write_value 5 (signed-short 1_000_000) (locals_of g))
        (counted-short (write_counted (write_atom measures)) 145 (alternative_of g)
        (λ i. counted-short (write_atom measures) 35 (atom_of g) (atom-short measures g) (get_or g.counts i 0) (i * 4)) count 0))
        l e,
  )

pub opening-short : (coefficients values : List ℤ) (n : ℕ) (l : List ℕ) →
    write_opening (from (row_given coefficients) n 0) (values_given values) ≡ written l → length l ≤ 704
opening-short coefficients values n l e =
    let rows = from (row_given coefficients) n 0 in
    let s = both-written (write_field 4 1 16 (length rows)) _ e in
    let t = both-written (all-written (all-written write_coefficient) rows) (all-written write_value (values_given values)) s.3 in
    let few = (field-range 4 1 16 (length rows) s.0 s.2).1 in
    omega (
      arith,
      only-short (leb 1 (length rows) && leb (length rows) 16) 4 (length rows) s.0 s.2,
      rows_short n t.0 t.2,
      all_short write_value 5 (signed-short 1_000_000) (values_given values) t.1 t.3,
      few,
      from-many (row_given coefficients) n 0,
      length-append s.0 s.1,
      ap length s.4,
      length-append t.0 t.1,
      ap length t.4,
    )
  where
    row-short : (m : ℕ) (l : List ℕ) → all-written write_coefficient (row_given coefficients m) ≡ written l → length l ≤ 40
    row-short m = all_short write_coefficient 5 (signed-short 100) (row_given coefficients m)

    rows_short : (n : ℕ) (l : List ℕ) → all-written (all-written write_coefficient) (from (row_given coefficients) n 0) ≡ written l →
        length l ≤ n * 40
    rows_short n = rows-all-short (all-written write_coefficient) 40 (row_given coefficients) row-short n 0

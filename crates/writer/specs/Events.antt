-- An event is its head, kind and job, and what its kind adds. A number of measures that no room has is refused before any field.
use Rattle.std.specs.Prelude.{◌≡◌, refl, Bool, true, false, ◌&&◌, List, [], ℕ, ◌+◌, ◌<◌, ◌≤◌, leb, ltb, ℤ, length, Result, Ok, Err, if◌then◌else◌}
use Rattle.std.proofs.Common.{sym, ap, ◌∙◌, subst, append-nil, append_assoc, arith, to_z, of_z, leb-true, le-leb}
use Rattle.std.specs.Int.Signed.{mag}
use Rattle.std.specs.Int.{w64}
use Rattle.std.proofs.lemmas.Bool.{lt-leb}
use Rattle.std.proofs.lemmas.List.Edits.{sets}
use Rattle.rules.specs.Step.{Event, assign}
use Rattle.rules.specs.Writer.{Written, written, unwritten, ◌then◌, number_bytes, write_field, write_below, event_kind, event_job, write_rest, write_event}
use Rattle.rules.specs.Laws.In.{both}
use Rattle.rules.specs.Laws.Halves.{written-not, written-if}
use Rattle.integers.specs.Machine.{back}
use Rattle.writer.specs.Puts.{Puts, place_after, field_put, both_false, only-short, both-short}
use Rattle.fields.specs.declared.refusal.Refusal.{Refusal}
use Rattle.fields.specs.declared.refusal.Refusal.TheVariants.{OutOfRange}
use Rattle.writer.specs.declared.events.Kind.{Kind}
use Rattle.writer.specs.declared.events.Kind.TheVariants.{Arrive, Admit, Set, Wait, Leave}

abbrev pub kind_number : Kind → ℕ
kind_number Arrive = 1
kind_number Admit = 2
kind_number Set = 3
kind_number Wait = 4
kind_number Leave = 5

abbrev pub write_head : ℕ → ℕ → ℕ → Written
write_head measures kind job = if leb 1 measures && leb measures 16 then (write_field 3 1 5 kind then write_below 32 job) else unwritten 4

-- ---- one after the other
pub then-assoc : (u v w : Written) → ((u then v) then w) ≡ (u then (v then w))
then-assoc (written l) (written m) (written n) = ap written (append_assoc l m n)
then-assoc (written l) (written m) (unwritten k) = refl
then-assoc (written l) (unwritten k) w = refl
then-assoc (unwritten k) v w = refl

pub then-nil : (v : Written) → (v then written []) ≡ v
then-nil (written l) = ap written (append-nil l)
then-nil (unwritten k) = refl

head-then : (t : Bool) (u v w : Written) →
    ((if t then (u then v) else unwritten 4) then w) ≡ (if t then (u then (v then w)) else unwritten 4)
head-then true u v w = then-assoc u v w
head-then false u v w = refl

pub event-parts : (measures : ℕ) (e : Event) →
    (write_head measures (event_kind e) (event_job e) then write_rest measures e) ≡ write_event measures e
event-parts measures e = head-then (leb 1 measures && leb measures 16) (write_field 3 1 5 (event_kind e)) (write_below 32 (event_job e))
    (write_rest measures e)

-- ---- by the code's tests
module _ (out : List ℕ) (measures kind job : ℕ) where
  refused-head : (leb 1 measures && leb measures 16) ≡ false → Puts (write_head measures kind job) out out 0 (Err OutOfRange)
  refused-head e =
      let none : write_head measures kind job ≡ unwritten 4 =
      ap (λ t. if t then (write_field 3 1 5 kind then write_below 32 job) else unwritten 4) e in
      record { place = sym (ap (place_after 0) none); stored = λ l d. written-not (sym none ∙ d); long = refl }

  pub head-none : measures < 1 → Puts (write_head measures kind job) out out 0 (Err OutOfRange)
  head-none h = refused-head (ap (λ t. t && leb measures 16) (lt-leb 1 measures h))

  pub head-many : 16 < measures → Puts (write_head measures kind job) out out 0 (Err OutOfRange)
  head-many h = refused-head (ap (λ t. leb 1 measures && t) (lt-leb measures 16 h) ∙ both_false (leb 1 measures))

  pub head-put : {out' : List ℕ} {r : Result ℕ Refusal} → 1 ≤ measures → measures ≤ 16 →
      Puts (write_field 3 1 5 kind then write_below 32 job) out out' 0 r → Puts (write_head measures kind job) out out' 0 r
  head-put {out'} {r} some few p =
      let good : (leb 1 measures && leb measures 16) ≡ true = (λ i. le-leb 1 measures some i && le-leb measures 16 few i) in
      subst (λ t. Puts (if t then (write_field 3 1 5 kind then write_below 32 job) else unwritten 4) out out' 0 r) (sym good) p

-- a kind's number is one that the reader takes
kind_range : (kind : Kind) → (1 ≤ kind_number kind) × (kind_number kind ≤ 5)
kind_range Arrive = (omega arith, omega arith)
kind_range Admit = (omega arith, omega arith)
kind_range Set = (omega arith, omega arith)
kind_range Wait = (omega arith, omega arith)
kind_range Leave = (omega arith, omega arith)

pub kind-put : (kind : Kind) {n at next : ℕ} {out out' : List ℕ} → n ≡ kind_number kind → out' ≡ sets out at (number_bytes n) →
    next ≡ at + length (number_bytes n) → Puts (write_field 3 1 5 (kind_number kind)) out out' at (Ok next)
kind-put kind {n} {at} {next} {out} {out'} e s p =
    let range = kind_range kind in
    field_put out at (kind_number kind) 1 5 3 out' next range.0 range.1 (s ∙ ap (λ m. sets out at (number_bytes m)) e)
    (p ∙ ap (λ m. at + length (number_bytes m)) e)

-- a whole event, of its head and the rest; and of the head alone
pub event-put : (measures : ℕ) (e : Event) {out out' : List ℕ} {r : Result ℕ Refusal} →
    Puts (write_head measures (event_kind e) (event_job e) then write_rest measures e) out out' 0 r →
    Puts (write_event measures e) out out' 0 r
event-put measures e {out} {out'} {r} p = subst (λ w. Puts w out out' 0 r) (event-parts measures e) p

pub bare-put : (measures : ℕ) (e : Event) → write_rest measures e ≡ written [] → {out out' : List ℕ} {r : Result ℕ Refusal} →
    Puts (write_head measures (event_kind e) (event_job e)) out out' 0 r → Puts (write_event measures e) out out' 0 r
bare-put measures e bare {out} {out'} {r} p =
    event-put measures e (subst (λ w. Puts w out out' 0 r)
    (sym (ap (λ x. write_head measures (event_kind e) (event_job e) then x) bare
    ∙ then-nil (write_head measures (event_kind e) (event_job e)))) p)

-- ---- what a head that was put tells
module _ (measures kind job : ℕ) (l : List ℕ) (e : write_head measures kind job ≡ written l) where
  abbrev told : ((leb 1 measures && leb measures 16) ≡ true) × ((write_field 3 1 5 kind then write_below 32 job) ≡ written l)
  told = written-if (leb 1 measures && leb measures 16) 4 (write_field 3 1 5 kind then write_below 32 job) e

  pub head_few : measures ≤ 16
  head_few = leb-true measures 16 (both (leb 1 measures) (leb measures 16) told.0).1

  pub head-short : length l ≤ 10
  head-short = both-short 5 5 (write_field 3 1 5 kind) (write_below 32 job) (only-short (leb 1 kind && leb kind 5) 3 kind)
      (only-short (ltb job 32) 4 job) l told.1

-- a Set's value, as the machine hands it on
pub set-as : (measures job v : ℕ) (x : ℤ) {out out' : List ℕ} {r : Result ℕ Refusal} → mag x < 9223372036854775808 →
    Puts (write_event measures (assign job v (to_z w64 (of_z w64 x)))) out out' 0 r →
    Puts (write_event measures (assign job v x)) out out' 0 r
set-as measures job v x {out} {out'} {r} h p = subst (λ y. Puts (write_event measures (assign job v y)) out out' 0 r) (back x h) p

-- "A writer for event records" (document 02, §1): the other half of `Record.antt`, field by field in the same order. A field out of its range is refused as
-- the reader refuses it, and the first such field decides.
use Rattle.std.specs.Prelude.{List, [], ◌∷◌, ◌++◌, Bool, ◌&&◌, ℕ, zero, suc, ◌+◌, ◌*◌, ◌/◌, ◌%◌, leb, ltb, ℤ, pos, negsuc, nat_abs, length, if◌then◌else◌}
use Rattle.rules.specs.Limits.{jobs, variables, measures_most, value_most, coefficient_most, parts_most, kind_most, operator_most}
use Rattle.rules.specs.Condition.{Given}
use Rattle.rules.specs.Step.{Event, arrive, admit, assign, wait, leave}

-- the bytes of a record, or a refusal
pub data Written : Type 0 where
  written : List ℕ → Written
  unwritten : ℕ → Written

-- one field, then what follows it
infixr 20 ◌then◌
abbrev pub ◌then◌ : Written → Written → Written
written l then written m = written (l ++ m)
written l then unwritten k = unwritten k
unwritten k then w = unwritten k

abbrev pub all-written : {A : Type 0} → (A → Written) → List A → Written
all-written w [] = written []
all-written w (a ∷ l) = w a then all-written w l

-- groups of seven bits, lowest first, at most so many; a number below 2^32 needs at most five
abbrev pub groups_of : ℕ → ℕ → List ℕ
groups_of zero n = []
groups_of (suc k) n = if ltb n 128 then n ∷ [] else (n % 128 + 128) ∷ groups_of k (n / 128)

abbrev pub number_bytes : ℕ → List ℕ
number_bytes n = groups_of 5 n

-- 0 and above: twice the number; below zero: minus twice the number, minus 1
abbrev pub unsigned : ℤ → ℕ
unsigned (pos n) = 2 * n
unsigned (negsuc n) = 2 * n + 1

-- the number, if the test passes; else the refusal
abbrev pub write_only : Bool → ℕ → ℕ → Written
write_only t refusal n = if t then written (number_bytes n) else unwritten refusal

abbrev pub write_field : ℕ → ℕ → ℕ → ℕ → Written
write_field refusal low high n = write_only (leb low n && leb n high) refusal n

abbrev pub write_below : ℕ → ℕ → Written
write_below bound n = write_only (ltb n bound) 4 n

abbrev pub write_signed : ℕ → ℤ → Written
write_signed most z = write_only (leb (nat_abs z) most) 4 (unsigned z)

abbrev pub write_value : ℤ → Written
write_value = write_signed value_most

abbrev pub write_coefficient : ℤ → Written
write_coefficient = write_signed coefficient_most

-- a count from one to four, then so many
abbrev pub write_counted : {A : Type 0} → (A → Written) → List A → Written
write_counted w l = write_field 4 1 parts_most (length l) then all-written w l

abbrev pub write_opening : List (List ℤ) → List ℤ → Written
write_opening measures values = write_field 4 1 measures_most (length measures) then all-written (all-written write_coefficient) measures then all-written write_value values

abbrev pub event_kind : Event → ℕ
event_kind (arrive job) = 1
event_kind (admit job) = 2
event_kind (assign job v x) = 3
event_kind (wait job l g) = 4
event_kind (leave job) = 5

abbrev pub event_job : Event → ℕ
event_job (arrive job) = job
event_job (admit job) = job
event_job (assign job v x) = job
event_job (wait job l g) = job
event_job (leave job) = job

module _ (measures : ℕ) where
  abbrev pub write_atom : Given → Written
  write_atom a = write_below measures a.measure then write_field 3 1 operator_most a.operator then all-written write_coefficient a.coefficients then write_value a.constant

  abbrev pub write_condition : List (List Given) → Written
  write_condition = write_counted (write_counted write_atom)

  abbrev pub write_rest : Event → Written
  write_rest (arrive job) = written []
  write_rest (admit job) = written []
  write_rest (assign job v x) = write_below variables v then write_value x
  write_rest (wait job l g) = all-written write_value l then write_condition g
  write_rest (leave job) = written []

  abbrev pub write_fields : Event → Written
  write_fields e = write_field 3 1 kind_most (event_kind e) then write_below jobs (event_job e) then write_rest e

  -- for a room with this many measures: refusal 4 for their number, before any field
  abbrev pub write_event : Event → Written
  write_event e = if leb 1 measures && leb measures measures_most then write_fields e else unwritten 4

-- What closure puts into a job's slots.
use Rattle.std.specs.Prelude.{List, ℕ, zero, suc, ◌+◌, ◌*◌, ℤ, pos, ◌+ℤ◌, get_or, set}
use Rattle.std.proofs.lemmas.List.Edits.{sets}
use Rattle.std.proofs.Common.{suc-mul, arith}
use Rattle.rules.specs.Limits.{coefficient_most, value_most}
use Rattle.rules.specs.Laws.Bounds.{Within, in-add, in-mul, within_more}
use Rattle.integers.specs.Sums.{sum}
use Rattle.condition.specs.Measures.{AllIn, term}
use Rattle.condition.specs.From.{from}

-- the key of the atom in a Wait's slot
abbrev pub key_at : List ℤ → List ℤ → List ℤ → ℕ → ℤ
key_at coefficients locals constant slot = sum (term coefficients (slot * 4) locals) 4 +ℤ get_or constant slot (pos 0)

-- the keys of so many slots from the first on
abbrev pub keys_from : List ℤ → List ℤ → List ℤ → ℕ → List ℤ
keys_from coefficients locals constant n = from (key_at coefficients locals constant) n 0

-- what stands in the first slots of an array
abbrev pub first_of : ℕ → List ℕ → List ℕ
first_of n l = from (λ k. get_or l k 0) n 0

-- ---- all of a job's slots, and all of a Wait's
pub record ClosedSlots : Type 0 where
  pub alternatives : List ℕ
  pub atoms : List ℕ
  pub measure : List ℕ
  pub operator : List ℕ
  pub key : List ℤ

abbrev pub closed_slots : List ℕ → List ℕ → List ℕ → List ℕ → List ℤ → ClosedSlots
closed_slots alternatives atoms measure operator key = record { alternatives = alternatives; atoms = atoms; measure = measure; operator = operator; key = key }

pub record GivenSlots : Type 0 where
  pub count : ℕ
  pub counts : List ℕ
  pub measure : List ℕ
  pub operator : List ℕ
  pub coefficients : List ℤ
  pub constant : List ℤ
  pub locals : List ℤ

abbrev pub given_slots : ℕ → List ℕ → List ℕ → List ℕ → List ℤ → List ℤ → List ℤ → GivenSlots
given_slots count counts measure operator coefficients constant locals =
    record { count = count; counts = counts; measure = measure; operator = operator; coefficients = coefficients; constant = constant; locals = locals }

-- a Wait's slots closed into those of a job, and the other jobs' as they were
abbrev pub put_closed : ℕ → ClosedSlots → GivenSlots → ClosedSlots
put_closed job s g = record {
  alternatives = set s.alternatives job g.count;
  atoms = sets s.atoms (job * 4) (first_of 4 g.counts);
  measure = sets s.measure (job * 16) (first_of 16 g.measure);
  operator = sets s.operator (job * 16) (first_of 16 g.operator);
  key = sets s.key (job * 16) (keys_from g.coefficients g.locals g.constant 16);
}

-- so many products, each at most N from 0
sum-within : (f : ℕ → ℤ) (N n : ℕ) → ((k : ℕ) → Within N (f k)) → Within (n * N) (sum f n)
unfolding sum
sum-within f N zero h = record { abs = omega arith }
sum-within f N (suc n) h = within_more (in-add (sum-within f N n h) (h n)) (rw (suc-mul n N) (omega arith))

pub local-within : (coefficients locals : List ℤ) (first : ℕ) → AllIn coefficient_most coefficients → AllIn value_most locals → Within 400_000_000 (sum (term coefficients first locals) 4)
local-within coefficients locals first c l = sum-within (term coefficients first locals) 100_000_000 4 (λ k. in-mul (c (first + k)) (l k))

-- "Numbers that bound it".
use Rattle.std.specs.Prelude.{ℕ, ◌+◌, ◌*◌}

abbrev pub jobs : ℕ
jobs = 32

abbrev pub variables : ℕ
variables = 8

abbrev pub measures_most : ℕ
measures_most = 16

-- of a shared value, a local value and a constant, on either side of 0
abbrev pub value_most : ℕ
value_most = 1_000_000

abbrev pub coefficient_most : ℕ
coefficient_most = 100

-- local values of a job, and coefficients of an atom
abbrev pub locals : ℕ
locals = 4

-- alternatives in a condition, atoms in an alternative
abbrev pub parts_most : ℕ
parts_most = 4

abbrev pub kind_most : ℕ
kind_most = 5

abbrev pub operator_most : ℕ
operator_most = 6

abbrev pub tickets : ℕ
tickets = 1_000_000

abbrev pub stream_most : ℕ
stream_most = 65_536

abbrev pub tally_most : ℕ
tally_most = 1_000_000_000

-- what follows for a measure (800,000,000) and for a key (401,000,000)
abbrev pub measure_most : ℕ
measure_most = variables * (coefficient_most * value_most)

abbrev pub key_most : ℕ
key_most = locals * (coefficient_most * value_most) + value_most

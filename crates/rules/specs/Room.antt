-- "Standings and events": what a room holds between events.
use Rattle.std.specs.Prelude.{Bool, true, false, List, [], map, ℕ, suc, get_or, set, replicate, ℤ, pos}
use Rattle.rules.specs.Limits.{jobs, variables}
use Rattle.rules.specs.Condition.{Condition, products}

-- a job that is waiting or called has a condition and a ticket
pub data Standing : Type 0 where
  outside door inside : Standing
  waiting called : Condition → ℕ → Standing

-- the coefficients of each measure, the shared values, each job's standing, and the ticket that is given next
pub record Room : Type 0 where
  pub measures : List (List ℤ)
  pub values : List ℤ
  pub standings : List Standing
  pub next_ticket : ℕ

abbrev pub opened : List (List ℤ) → List ℤ → Room
opened measures values = record { measures = measures; values = values; standings = replicate jobs outside; next_ticket = 0 }

-- what stands where a refused opening's answer has a place for a room
abbrev pub no_room : Room
no_room = opened [] (replicate variables (pos 0))

abbrev pub standing : Room → ℕ → Standing
standing r j = get_or r.standings j outside

-- a measure: the sum of coefficient times shared value
abbrev pub measured : List ℤ → List ℤ → ℤ
measured values coefficients = products coefficients values

-- the values of all measures
abbrev pub now : Room → List ℤ
now r = map (measured r.values) r.measures

abbrev pub is_inside : Standing → Bool
is_inside inside = true
is_inside outside = false
is_inside door = false
is_inside (waiting c t) = false
is_inside (called c t) = false

abbrev pub is_outside : Standing → Bool
is_outside outside = true
is_outside inside = false
is_outside door = false
is_outside (waiting c t) = false
is_outside (called c t) = false

abbrev pub stand : ℕ → Standing → Room → Room
stand j s r = record { measures = r.measures; values = r.values; standings = set r.standings j s; next_ticket = r.next_ticket }

abbrev pub store : ℕ → ℤ → Room → Room
store v x r = record { measures = r.measures; values = set r.values v x; standings = r.standings; next_ticket = r.next_ticket }

abbrev pub give_ticket : Room → Room
give_ticket r = record { measures = r.measures; values = r.values; standings = r.standings; next_ticket = suc r.next_ticket }

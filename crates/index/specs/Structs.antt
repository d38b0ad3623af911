-- What the struct of src/lib.rt and the slots of crate condition say of the index, by the definitions over their arrays.
use Rattle.std.specs.Prelude.{List, ℕ}
use Rattle.condition.specs.Closing.{ClosedSlots}
use Rattle.condition.specs.Slots.{closed_of}
use Rattle.condition.specs.declared.slots.Conditions.{Conditions}
use Rattle.index.specs.Filed.{alternatives_in}
use Rattle.index.specs.Nodes.{home_of}
use Rattle.index.specs.Index as lists
use Rattle.index.specs.declared.Index.{Index}

-- the index of the jobs whose conditions these are
abbrev pub IsIndex : ClosedSlots → List ℕ → Index → Type 0
IsIndex s ticket index = lists.Index s ticket index.entry index.ranks.high index.ranks.low index.homes.places index.homes.lengths

-- the home of a node, and how many nodes a job has
abbrev pub home_by : Conditions → ℕ → ℕ
home_by conditions = home_of conditions.atoms conditions.measure conditions.operator

abbrev pub count_in : Conditions → ℕ → ℕ
count_in conditions job = alternatives_in (closed_of conditions) job

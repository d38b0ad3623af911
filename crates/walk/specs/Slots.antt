-- A node's alternative, by the slots of crate condition.
use Rattle.std.specs.Prelude.{Bool, ℕ}
use Rattle.condition.specs.Slots.{now_of}
use Rattle.condition.specs.declared.slots.Shared.{Shared}
use Rattle.condition.specs.declared.slots.Conditions.{Conditions}
use Rattle.walk.specs.Walks.{node_true}

-- the alternative of a node is true
abbrev pub truth_of : Shared → Conditions → ℕ → Bool
truth_of shared conditions = node_true (now_of shared) conditions.atoms conditions.measure conditions.operator conditions.key

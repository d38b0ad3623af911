-- The tag of a node's alternative, by the slots of crate condition.
use Rattle.std.specs.Prelude.{Bool, ℕ}
use Rattle.condition.specs.Slots.{now_of}
use Rattle.condition.specs.declared.slots.Shared.{Shared}
use Rattle.condition.specs.declared.slots.Conditions.{Conditions}
use Rattle.drain.specs.Drained.{node_tag}

-- the tag of a node's alternative holds
abbrev pub holds_of : Shared → Conditions → ℕ → Bool
holds_of shared conditions = node_tag (now_of shared) conditions.atoms conditions.measure conditions.operator conditions.key

-- A tag as a plain number: its slot, or 512, which is no slot.
use Rattle.std.specs.Prelude.{ℕ, Option, Some, None}

abbrev pub plain_tag : Option ℕ → ℕ
plain_tag (Some slot) = slot
plain_tag None = 512

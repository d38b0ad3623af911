-- The invariant of the index: "Between events these three hold every alternative of every entry exactly once, under its tag, and nothing else."
use Rattle.std.specs.Prelude.{◌≡◌, List, ℕ, ◌+◌, ◌*◌, ◌<◌, get_or, length}
use Rattle.condition.specs.Closing.{ClosedSlots}
use Rattle.condition.specs.Closes.{condition_in}
use Rattle.ranks.specs.Words.{high_word, low_word}
use Rattle.nodes.specs.Ranks.{rank}
use Rattle.entries.specs.Entries.{Waits, Entries, Distinct}
use Rattle.index.specs.Filed.{home_in, tag_in, is_node, Filed}

pub record Index (s : ClosedSlots) (ticket entry high low places lengths : List ℕ) : Type 0 where
  pub entries : Entries (condition_in s) ticket entry
  pub distinct : Distinct ticket entry
  pub size : length entry ≡ 32
  pub words : (j i : ℕ) → Waits entry j → i < 4 → (get_or high (j * 4 + i) 0 ≡ high_word (tag_in s (j * 4 + i))) × (get_or low (j * 4 + i) 0 ≡ low_word (get_or ticket j 0) i)
  pub filed : Filed (rank high low) (home_in s) (is_node s entry) places lengths

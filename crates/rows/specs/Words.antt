-- A row in the order of ranks is in the order of their first words: the second word is less than one of the first counts for.
use Rattle.std.specs.Prelude.{List, ℕ, ◌%◌, ◌^◌, ◌<◌, ◌≤◌, get_or}
use Rattle.std.proofs.Common.{arith}
use Rattle.nodes.specs.Ranks.{two, rank}
use Rattle.nodes.specs.Order.{Ordered}
use Rattle.nodes.specs.Holes.{rank_at}
use Rattle.rows.specs.Places.{previous}
use Rattle.rows.specs.Halves.{word_of}

first-words : (a b c d : ℕ) → b < 2 ^ 64 → two a b ≤ two c d → d < 2 ^ 64 → a ≤ c
unfolding two
first-words a b c d p h q = omega arith

pub words-ordered : (high low row : List ℕ) (n : ℕ) → ((j : ℕ) → j < n → get_or low (get_or row j 0 % 128) 0 < 2 ^ 64) →
    Ordered previous (rank_at (rank high low) row) n → Ordered previous (rank_at (word_of high) row) n
unfolding Ordered
words-ordered high low row n fits o j p q = first-words _ _ _ _ (fits (previous j) (omega arith)) (o j p q) (fits j q)

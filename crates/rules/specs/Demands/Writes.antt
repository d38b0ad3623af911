-- "What it writes, the reader reads back as the same record; what the reader accepts and the writer writes again is the same bytes" (document 02, §1).
use Rattle.std.specs.Prelude.{◌≡◌, List, ◌++◌, ℕ}
use Rattle.rules.specs.Writer.{Written, written}

-- these bytes were written, and the rest follows
abbrev pub Again : Written → List ℕ → List ℕ → Type 0
Again w bytes rest = (front : List ℕ) × (w ≡ written front) × (bytes ≡ front ++ rest)

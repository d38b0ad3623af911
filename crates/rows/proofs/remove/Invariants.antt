-- The hole goes down toward the last of the n + 1 places, which is never written.
use Rattle.std.proofs.Common.{◌≡◌, ℕ, ◌+◌, ◌≤◌, get_or, length}
use Rattle.nodes.specs.Holes.{Moved}
use Rattle.rows.specs.Slides.{Gap}
use Rattle.rows.proofs.remove.Given as goal

abbrev pub invariant-loop-i : goal.invariant-loop-i
invariant-loop-i l = record {
  most : l.i ≤ l.n;
  long : length l.row ≡ length l.initial.row;
  last : get_or l.row l.n 0 ≡ get_or l.initial.row l.n 0;
  moved : (rank : ℕ → ℕ) → Moved rank (Gap l.n) l.initial.row l.row (l.n + 1) l.k l.i;
}

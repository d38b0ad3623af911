-- The best so far is the oldest of the jobs passed.
use Rattle.std.proofs.Common.{◌≡◌}
use Rattle.entries.specs.Oldest.{oldest_of}
use Rattle.entries.proofs.oldest_of.Given as goal

abbrev pub invariant-loop-k : goal.invariant-loop-k
invariant-loop-k l = l.best ≡ oldest_of l.entry l.ticket l.of l.k

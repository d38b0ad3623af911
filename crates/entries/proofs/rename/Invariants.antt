-- The places passed are renamed, the others as they were.
use Rattle.entries.specs.Renames.{Renamed}
use Rattle.entries.proofs.rename.Given as goal

abbrev pub invariant-loop-said : goal.invariant-loop-said
invariant-loop-said l = Renamed l.initial.entry l.entry l.old l.new l.said-index

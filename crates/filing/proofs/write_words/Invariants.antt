-- The words of the nodes passed stand in their places.
use Rattle.std.proofs.Common.{◌+◌, ◌*◌}
use Rattle.condition.specs.StoredFrom.{StoredUpTo}
use Rattle.ranks.specs.Words.{low_word}
use Rattle.filing.specs.Words.{high_at}
use Rattle.filing.proofs.write_words.Given as goal

abbrev pub invariant-loop-i : goal.invariant-loop-i
invariant-loop-i l =
    StoredUpTo (λ k. high_at l.conditions.atoms l.conditions.measure l.conditions.operator l.conditions.key (l.job * 4 + k)) (l.job * 4)
    l.fn.ranks.high l.ranks.high l.i
    × StoredUpTo (λ k. low_word l.ticket k) (l.job * 4) l.fn.ranks.low l.ranks.low l.i

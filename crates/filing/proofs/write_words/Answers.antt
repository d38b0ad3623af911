-- Both words of the next node are stored in its place.
use Rattle.std.proofs.Common.{◌+◌, ◌*◌}
use Rattle.condition.specs.StoredFrom.{put-more}
use Rattle.ranks.specs.Words.{low_word}
use Rattle.filing.specs.Words.{high_at}
use Rattle.filing.proofs.write_words.Goals as goal

pub loop-i-preserved : goal.loop-i-preserved
loop-i-preserved c =
    let l = c.loop-i in
    let a = c.args in
    let s = a.conditions.now in (
      put-more (λ k. high_at s.atoms s.measure s.operator s.key (a.job * 4 + k)) (a.job * 4) a.ranks.now.high l.ranks.high l.i
          c.word_of.ensures l.invariant.0,
      put-more (λ k. low_word a.ticket k) (a.job * 4) a.ranks.now.low l.ranks.low l.i c.low_word.ensures l.invariant.1,
    )

-- What was chosen is one of the jobs passed, so that its ticket can be read.
use Rattle.std.proofs.Common.{arith}
use Rattle.entries.specs.Oldest.{oldest-none, oldest-more, oldest-below}
use Rattle.entries.proofs.oldest_of.Goals as goal

pub loop-k-init : goal.loop-k-init
loop-k-init c = oldest-none _ _ _

pub choose-best-requires-clause-fact_2 : goal.choose-best-requires-clause-fact_2
choose-best-requires-clause-fact_2 c b e =
    omega (arith, oldest-below c.args.entry.now c.args.ticket.now c.args.of c.loop-k.k c.loop-k.invariant b e)

pub loop-k-preserved : goal.loop-k-preserved
loop-k-preserved c = oldest-more _ _ _ _ c.loop-k.invariant c.choose-best.ensures

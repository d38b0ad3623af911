-- Each move of the hole keeps the order around it, and it stops where the node may stand.
use Rattle.nodes.specs.Rises.{rise-more, rise-end}
use Rattle.nodes.proofs.rise.rise.Goals as goal

pub loop-p-preserved : goal.loop-p-preserved
loop-p-preserved g c =
    rw c.above-p.ensures
    (rise-more g.A.Above.above g.met.A.Above.lower _ _ _ _ _ _ _ c.requires.fact_2 c.loop-p.invariant c.goes_up.ensures c.loop-p-test.true)

pub returns : goal.returns
returns g c =
    rise-end g.A.Above.above g.met.A.Above.lower _ _ _ _ _ _ _ c.requires.fact_2 c.loop-p.invariant c.goes_up.ensures c.loop-p-test.false

-- The next node is in its home still; taking it out adds one move to the moves so far, and no home has more nodes than before.
use Rattle.std.proofs.Common.{rules, ◌≡◌, length, ◌<◌, arith, refl, ◌∙◌}
use Rattle.nodes.specs.Structs.{rank_in}
use Rattle.index.specs.Structs.{home_by, count_in}
use Rattle.index.specs.Loops.{cut-next, cut_most, cut-held, home-small}
use Rattle.index.proofs.alternatives.cut_nodes.Goals as goal

pub cut-requires-clause-fact_3 : goal.cut-requires-clause-fact_3
cut-requires-clause-fact_3 c =
    let a = c.args in
    let l = c.loop-i in
    let many : length l.homes.lengths ≡ 34 = l.invariant.1.many ∙ search rules in
    let one = home-small a.conditions.now.atoms a.conditions.now.measure a.conditions.now.operator _ c.home_of.ensures
    c.requires.job_bound_2 in
    let less : l.i < count_in a.conditions.now a.job = omega (arith, c.loop-i-test.true, c.count_of-i-end.ensures) in
    cut-held (rank_in a.ranks.now) (home_by a.conditions.now) a.job a.homes.now.places a.homes.now.lengths l.homes.places l.homes.lengths
    l.i (omega arith) refl c.home_of.ensures one many _ less c.requires.by_index_2 l.invariant.1

pub loop-i-preserved : goal.loop-i-preserved
loop-i-preserved c =
    let a = c.args in
    let l = c.loop-i in
    let many : length l.homes.lengths ≡ 34 = l.invariant.1.many ∙ search rules in
    let one = home-small a.conditions.now.atoms a.conditions.now.measure a.conditions.now.operator _ c.home_of.ensures
    c.requires.job_bound_2 in
    let few : l.i < 4 = omega (arith, c.loop-i-test.true, c.count_of-i-end.ensures) in (
      cut_most (rank_in a.ranks.now) (home_by a.conditions.now) a.job a.homes.now.places a.homes.now.lengths l.homes.places l.homes.lengths
          l.i few refl c.home_of.ensures one many _ _ 128 l.invariant.0 c.cut.ensures,
      cut-next (rank_in a.ranks.now) (home_by a.conditions.now) a.job a.homes.now.places a.homes.now.lengths l.homes.places l.homes.lengths
          l.i few refl c.home_of.ensures one many _ _ l.invariant.1 c.cut.ensures,
    )

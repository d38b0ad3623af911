-- Each node adds one move to the moves so far, and its home has one node more.
use Rattle.std.proofs.Common.{rules, ◌≡◌, length, ◌<◌, arith, refl, ◌∙◌}
use Rattle.nodes.specs.Structs.{rank_in}
use Rattle.index.specs.Structs.{home_by}
use Rattle.index.specs.Loops.{put_next, put-most, home-small}
use Rattle.index.proofs.alternatives.put_nodes.Goals as goal

pub loop-i-preserved : goal.loop-i-preserved
loop-i-preserved c =
    let a = c.args in
    let l = c.loop-i in
    let many : length l.homes.lengths ≡ 34 = l.invariant.1.many ∙ search rules in
    let one = home-small a.conditions.now.atoms a.conditions.now.measure a.conditions.now.operator _ c.home_of.ensures
    c.requires.job_bound_2 in
    let few : l.i < 4 = omega (arith, c.loop-i-test.true, c.count_of-i-end.ensures) in (
      put-most (rank_in a.ranks.now) (home_by a.conditions.now) a.job a.homes.now.places a.homes.now.lengths l.homes.places l.homes.lengths
          l.i few refl c.home_of.ensures one many _ _ 124 l.invariant.0 c.put.ensures,
      put_next (rank_in a.ranks.now) (home_by a.conditions.now) a.job a.homes.now.places a.homes.now.lengths l.homes.places l.homes.lengths
          l.i few refl c.home_of.ensures one many _ _ l.invariant.1 c.put.ensures,
    )

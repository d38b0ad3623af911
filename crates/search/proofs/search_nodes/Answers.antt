-- `search_nodes` meets its contract: the equality tags are walked, and if nobody is found there, the rest.
use Rattle.std.proofs.Common.{◌∙◌, arith}
use Rattle.condition.specs.Slots.{now_of}
use Rattle.nodes.specs.Structs.{rank_in}
use Rattle.drain.specs.Slots.{holds_of}
use Rattle.search.specs.Stretches.{then_found, then_next, count_most, nobody-most}
use Rattle.search.specs.Prepared.{equalities-long, rest-long}
use Rattle.search.proofs.search_nodes.Goals as goal

pub returns-in_default : goal.returns-in_default
returns-in_default c = then_found _ _ _ c.search_equalities-walk.ensures _ _ c.in_default.is

pub counted-requires-clause-fact_1 : goal.counted-requires-clause-fact_1
counted-requires-clause-fact_1 c =
    let a = c.args in
    omega (
      arith,
      nobody-most _ _ 2048 _ c.search_equalities-walk.ensures c.in-Nobody.is
          (equalities-long (rank_in a.ranks.now) a.ranks.now.high a.homes.now.places a.homes.now.lengths a.measures c.requires.fact_1
          c.requires.fact_3 (now_of a.shared.now)),
    )

pub counted-requires-clause-fact_2 : goal.counted-requires-clause-fact_2
counted-requires-clause-fact_2 c =
    let a = c.args in
    let tag = holds_of a.shared.now a.conditions.now in
    count_most _ _ 8192 c.search_rest-rest.ensures (rest-long (rank_in a.ranks.now) a.ranks.now.high a.homes.now.places a.homes.now.lengths
    a.measures c.requires.fact_1 c.requires.fact_3 tag)

pub returns : goal.returns
returns c = c.counted.ensures ∙ then_next _ _ _ c.search_equalities-walk.ensures _ c.in-Nobody.is c.search_rest-rest.ensures

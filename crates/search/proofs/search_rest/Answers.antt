-- `search_rest` meets its contract: the heaps are walked, and if nobody is found there, the row without tags.
use Rattle.std.proofs.Common.{ap, ◌∙◌, arith}
use Rattle.walk.specs.Walks.{walked}
use Rattle.walk.specs.Slots.{truth_of}
use Rattle.nodes.specs.Structs.{rank_in}
use Rattle.drain.specs.Slots.{holds_of}
use Rattle.search.specs.Stretches.{then_found, then_next, count_most, nobody-most}
use Rattle.search.specs.Prepared.{thresholds-long, untagged-long, untagged-part}
use Rattle.search.proofs.search_rest.Goals as goal

pub returns-in_default : goal.returns-in_default
returns-in_default c = then_found _ _ _ c.search_thresholds-walk.ensures _ _ c.in_default.is

pub counted-requires-clause-fact_1 : goal.counted-requires-clause-fact_1
counted-requires-clause-fact_1 c =
    let a = c.args in
    let tag = holds_of a.shared.now a.conditions.now in
    omega (
      arith,
      nobody-most _ _ 4096 _ c.search_thresholds-walk.ensures c.in-Nobody.is
          (thresholds-long (rank_in a.ranks.now) a.ranks.now.high a.homes.now.places a.homes.now.lengths a.measures c.requires.fact_1
          c.requires.fact_3 tag),
    )

pub counted-requires-clause-fact_2 : goal.counted-requires-clause-fact_2
counted-requires-clause-fact_2 c =
    let a = c.args in
    let test = truth_of a.shared.now a.conditions.now in
    let part = untagged-part (rank_in a.ranks.now) a.ranks.now.high a.homes.now.places a.homes.now.lengths a.measures c.requires.fact_1
    c.requires.fact_3 in
    omega (
      arith,
      count_most _ _ 128 (c.evaluate-last.ensures ∙ ap (walked test) part)
          (untagged-long (rank_in a.ranks.now) a.ranks.now.high a.homes.now.places a.homes.now.lengths a.measures c.requires.fact_1
          c.requires.fact_3),
    )

pub returns : goal.returns
returns c =
    let a = c.args in
    let test = truth_of a.shared.now a.conditions.now in
    let part = untagged-part (rank_in a.ranks.now) a.ranks.now.high a.homes.now.places a.homes.now.lengths a.measures c.requires.fact_1
    c.requires.fact_3 in
    c.counted.ensures ∙ then_next _ _ _ c.search_thresholds-walk.ensures _ c.in-Nobody.is (c.evaluate-last.ensures ∙ ap (walked test) part)

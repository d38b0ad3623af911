-- The nodes of a heap whose tags hold are in one home.
use Rattle.std.proofs.Common.{rules, ◌≡◌, arith}
use Rattle.nodes.specs.Structs.{rank_in}
use Rattle.walk.specs.Walks.{walked}
use Rattle.walk.specs.Slots.{truth_of}
use Rattle.drain.specs.Slots.{holds_of}
use Rattle.search.specs.Stretches.{count_most}
use Rattle.search.specs.Heaps.{thresholds, thresholds-most}
use Rattle.search.proofs.thresholds.search_thresholds.Goals as goal

pub each-requires-clause-few : goal.each-requires-clause-few
each-requires-clause-few c = λ heap walk h p.
    let a = c.args in
    let tag = holds_of a.shared.now a.conditions.now in
    let nodes = thresholds tag (rank_in a.ranks.now) a.homes.now.places a.homes.now.lengths heap in
    let told : walk ≡ walked (truth_of a.shared.now a.conditions.now) nodes = search rules in
    count_most _ nodes 128 told (thresholds-most tag (rank_in a.ranks.now) a.homes.now.places a.homes.now.lengths heap
    (c.requires.by_index heap (omega (arith, h, c.requires.fact_1))))

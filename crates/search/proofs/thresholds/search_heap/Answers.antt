-- `search_heap` meets its contract: the heap's places are lent to `evaluate_heap`.
use Rattle.std.proofs.Common.{◌+◌, ◌*◌, ◌-◌, arith}
use Rattle.nodes.specs.Structs.{rank_in}
use Rattle.search.specs.Heaps.{part_apart, part-walked}
use Rattle.search.proofs.thresholds.search_heap.Goals as goal

pub evaluate_heap-requires-clause-ordered_2 : goal.evaluate_heap-requires-clause-ordered_2
evaluate_heap-requires-clause-ordered_2 c =
    let a = c.args in
    part_apart (rank_in a.ranks.now) a.homes.now.places a.homes.now.lengths a.heap (a.heap * 128 + 128 - a.heap * 128) (omega arith)
    c.requires.ready

pub returns : goal.returns
returns c =
    let a = c.args in
    part-walked (rank_in a.ranks.now) a.homes.now.places a.homes.now.lengths a.heap (a.heap * 128 + 128 - a.heap * 128) (omega arith) _ _
    c.evaluate_heap.ensures

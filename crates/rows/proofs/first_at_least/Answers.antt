-- The words of an ordered row are parted, and `partition_point` tells where.
use Rattle.std.proofs.Common.{rules, of_calls, ltb}
use Rattle.std.proofs.lemmas.Fn.{always_returns_same}
use Rattle.rows.specs.Halves.{word_of}
use Rattle.rows.specs.Points.{words-parted, point-reaches}
use Rattle.rows.proofs.first_at_least.Goals as goal

pub returns : goal.returns
returns c =
    let high = c.args.ranks.now.high in
    let row = c.args.row.now in
    let fits = c.requires.n_in_bounds_1 in
    point-reaches (word_of high) c.args.word row c.args.n fits c.partition_point.result c.partition_point.ensures.bound
    (c.partition_point.ensures.partitioned (λ y. ltb (word_of high y) c.args.word)
    (always_returns_same _ _ _ (λ a r f k. search (rules, of_calls)))
    (words-parted (word_of high) c.args.word row c.args.n fits c.requires.ordered))

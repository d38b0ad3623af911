-- The nodes whose equality tag is of one measure and holds are in one row.
use Rattle.std.proofs.Common.{rules, ◌≡◌}
use Rattle.condition.specs.Slots.{now_of}
use Rattle.walk.specs.Walks.{walked}
use Rattle.walk.specs.Slots.{truth_of}
use Rattle.search.specs.Stretches.{count_most}
use Rattle.search.specs.Lookups.{equalities, equalities-most}
use Rattle.search.proofs.equalities.search_equalities.Goals as goal

pub each-requires-clause-few : goal.each-requires-clause-few
each-requires-clause-few c = λ of walk h p.
    let a = c.args in
    let nodes = equalities (now_of a.shared.now) a.ranks.now.high a.row.now a.n of in
    let told : walk ≡ walked (truth_of a.shared.now a.conditions.now) nodes = search rules in
    count_most _ nodes 128 told (equalities-most (now_of a.shared.now) a.ranks.now.high a.row.now a.n of 128 c.requires.n_in_bounds_2)

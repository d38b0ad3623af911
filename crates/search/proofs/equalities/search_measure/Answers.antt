-- `search_measure` meets its contract: the run of a word is what lies between where it begins and where the next word does.
use Rattle.std.proofs.Common.{rules}
use Rattle.search.specs.Lookups.{looked-up}
use Rattle.search.proofs.equalities.search_measure.Goals as goal

pub returns : goal.returns
returns c =
    let a = c.args in
    looked-up a.shared.now.coefficients a.shared.now.values a.conditions.now.key a.of c.requires.n_in_bounds_4 c.measure_of-value.ensures
    _ a.ranks.now.high a.row.now a.n _ _ _ c.equality_word-word.ensures (search rules) c.first_at_least-first.ensures
    c.first_at_least-end.ensures c.evaluate.ensures

-- `search` meets its contract: what it walks is, for an index that keeps its invariant, the rules' search.
use Rattle.std.proofs.Common.{ap, ◌∙◌}
use Rattle.search.specs.Structs.{searchable_of}
use Rattle.search.specs.Prepared.{prepared}
use Rattle.search.specs.Rules.{search-is-the-rules-search, walked-order}
use Rattle.search.specs.Answers.{as_answer}
use Rattle.search.proofs.search.Goals as goal

pub search_nodes-requires-clause-fact_3 : goal.search_nodes-requires-clause-fact_3
search_nodes-requires-clause-fact_3 c =
    let a = c.args in
    prepared (searchable_of a.measures a.conditions.now a.index.now a.shared.now c.requires.fact_1 c.requires.fact_2)

pub returns : goal.returns
returns c i =
    let a = c.args in
    let q = searchable_of a.measures a.conditions.now a.index.now a.shared.now c.requires.fact_1 i in
    c.from.ensures ∙ ap as_answer c.search_nodes.ensures ∙ walked-order q ∙ search-is-the-rules-search q

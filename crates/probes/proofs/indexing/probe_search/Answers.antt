-- It is what `search` promises of the structs over the lent arrays, in plain numbers.
use Rattle.std.proofs.Common.{◌∙◌, ap}
use Rattle.probes.specs.Searches.{plain_search}
use Rattle.probes.proofs.indexing.probe_search.Goals as goal

pub returns : goal.returns
returns c i =
    let h = rw (c.index_of-index.ensures, c.shared_of-shared.ensures, c.conditions_of-conditions.ensures) at c.search.ensures in
    c.into.ensures ∙ ap plain_search (h i)

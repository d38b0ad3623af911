-- Two pairs of words compare as the ranks that they make.
use Rattle.std.proofs.Common.{rules, ◌∙◌}
use Rattle.nodes.specs.Ranks.{pairs-compare}
use Rattle.nodes.proofs.Ranks.before.Goals as goal

pub returns : goal.returns
returns c = c.lt.ensures ∙ pairs-compare _ _ _ _ (search rules) (search rules)

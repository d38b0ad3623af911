-- It is what `event` promises, told in plain numbers; the closure makes of each answer the one with its refusal's number.
use Rattle.std.proofs.Common.{◌≡◌, ◌∙◌, ap, rules}
use Rattle.harbour.specs.Reports.{told, answer_of, reports}
use Rattle.harbour.proofs.arrays.take_event.Goals as goal

pub returns-clause-reports : goal.returns-clause-reports
returns-clause-reports c =
    let same : c.map.result ≡ answer_of c.event.result = search rules in
    reports c.event.ensures.takes (c.told.ensures ∙ ap told same)

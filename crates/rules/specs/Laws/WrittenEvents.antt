-- An event: what is written reads back as the same event, and what was read is written as it stood; kind by kind.
use Rattle.rules.specs.Limits.{locals}
use Rattle.rules.specs.Step.{Event, arrive, admit, assign, wait, leave}
use Rattle.rules.specs.Laws.Halves.{Many}
use Rattle.rules.specs.Laws.Written.{Any, ConditionShape}

abbrev pub EventShape : Event → Type 0
EventShape (arrive job) = Unit {0}
EventShape (admit job) = Unit {0}
EventShape (assign job v x) = Unit {0}
EventShape (wait job l g) = Many Any locals l × ConditionShape g
EventShape (leave job) = Unit {0}

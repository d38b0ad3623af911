-- The numbers of a Wait that were read keep to the ranges of document 01, since every reader is sound.
use Rattle.std.specs.Prelude.{◌≡◌, List, ℕ, drop}
use Rattle.rules.specs.Limits.{locals, value_most}
use Rattle.rules.specs.Number.{read, times}
use Rattle.rules.specs.Record.{value, condition}
use Rattle.rules.specs.Laws.WellFormed.{Numbers, GivenFits, Parts, sound-value, sound-condition}
use Rattle.rules.specs.Laws.Readers.{SoundReader, sound-pure, sound-then, sound-times}
use Rattle.wire.specs.WaitSlots.{Body, numbers}

module _ (measures : ℕ) where
  abbrev pub BodyFits : Body → Type 0
  BodyFits b = Parts (Parts (GivenFits measures)) b.condition × Numbers locals value_most b.locals

  pub sound-numbers : SoundReader 1 BodyFits (numbers measures)
  sound-numbers = sound-then (times locals value) _ (sound-times value sound-value locals) (λ l f.
      sound-then (condition measures) _ (sound-condition measures) (λ g i. sound-pure (record { locals = l; condition = g }) (i, f)))

  pub read_fits : (bytes : List ℕ) (at : ℕ) {b : Body} {rest : List ℕ} → numbers measures (drop at bytes) ≡ read b rest → BodyFits b
  read_fits bytes at {b} {rest} e = (sound-numbers.gives (drop at bytes) b rest e).0

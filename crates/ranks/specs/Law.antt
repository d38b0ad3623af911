-- The words fit a u64. That their order is the order of the ranks is `word-order` of proofs/Law.antt.
use Rattle.std.specs.Prelude.{ℕ, ◌^◌, ◌<◌}
use Rattle.std.proofs.Common.{arith}
use Rattle.std.proofs.Math.Option.{Option}
use Rattle.rules.specs.Condition.{Atom}
use Rattle.ranks.specs.Words.{high_word, low_word, TagFits}
use Rattle.ranks.specs.Classes.{high-below, class-number-most, classed}

pub high_fits : (o : Option Atom) → TagFits o → high_word o < 2 ^ 48
high_fits o f = let c = classed o f in rw c.word-is (omega (arith, high-below c.class c.fits, class-number-most c.class))

pub low_fits : (ticket i : ℕ) → ticket < 2 ^ 32 → i < 4 → low_word ticket i < 2 ^ 34
low_fits ticket i p q = omega arith

-- What the words ask of a tag holds of every tag of a room: it is an atom of its alternative, and those keep to document 01's ranges.
use Rattle.std.specs.Prelude.{◌≡◌, refl, List, ℕ, ◌≤◌}
use Rattle.std.proofs.Math.Option.{Option, none, some}
use Rattle.std.proofs.Common.{lt_of_lt_of_le, lit≤}
use Rattle.rules.specs.Limits.{measures_most}
use Rattle.rules.specs.Base.{first}
use Rattle.rules.specs.Condition.{Atom}
use Rattle.rules.specs.Tag.{tag, or_else, is_equality, is_threshold}
use Rattle.rules.specs.Laws.In.{In, first-in}
use Rattle.rules.specs.Laws.Bounds.{Each, each_in, within_more}
use Rattle.rules.specs.Laws.WellFormed.{AtomFits}
use Rattle.ranks.specs.Words.{TagFits}

module _ (measures : ℕ) (few : measures ≤ measures_most) (alternative : List Atom) (fit : Each (AtomFits measures) alternative) where
  pub tag_fits : TagFits (tag alternative)
  tag_fits = go (first is_equality alternative) (first is_threshold alternative) (first-in is_equality alternative) (first-in is_threshold alternative)
    where
      one : (a : Atom) → In a alternative → TagFits (some a)
      one a h = let f = each_in (AtomFits measures) a alternative fit h in (lt_of_lt_of_le f.measure few, within_more f.key (lit≤ tt))

      go : (o p : Option Atom) → ((a : Atom) → o ≡ some a → In a alternative) → ((a : Atom) → p ≡ some a → In a alternative) → TagFits (or_else o p)
      go (some a) p f g = one a (f a refl)
      go none (some a) f g = one a (g a refl)
      go none none f g = tt

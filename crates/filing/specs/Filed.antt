-- What the laws of homes ask of a tag holds of the nodes of a room, and what they ask of the measures' values does too.
use Rattle.std.specs.Prelude.{Option, Some, None, ◌≡◌, true, ◌⊎◌, List, ℕ, ◌+◌, ◌*◌, ◌<◌, ◌≤◌, ℤ, pos, get_or}
use Rattle.std.proofs.Common.{sym, subst, inl, inr, arith, eqb-true, leb-true, lit≤}
use Rattle.std.proofs.Math.Option as math
use Rattle.std.proofs.Math.Option.{none, some}
use Rattle.std.proofs.Math.Decide.{dec_lt}
use Rattle.rules.specs.Limits.{coefficient_most, value_most, key_most}
use Rattle.rules.specs.Base.{first}
use Rattle.rules.specs.Condition.{Atom}
use Rattle.rules.specs.Tag.{tag, or_else, is_equality, is_threshold}
use Rattle.rules.specs.Laws.In.{first-true}
use Rattle.rules.specs.Laws.Bounds.{Within, in-add, in-mul, within_more}
use Rattle.integers.specs.Sums.{sum}
use Rattle.condition.specs.Measures.{AllIn, term, now_at, now-at, now-past}
use Rattle.condition.specs.Closed.{atom_at, alternative_at}
use Rattle.condition.specs.Closing.{local-within}
use Rattle.condition.specs.Tags.{tag_at, tag_means, tag-means}
use Rattle.ranks.specs.Words.{key_room, TagFits}
use Rattle.filing.specs.Words.{key-room}
use Rattle.filing.specs.Kinds.{TagOperator}

-- a tag has an operator that a tag may have
tag-passes : (l : List Atom) (a : Atom) → tag l ≡ some a → (is_equality a ≡ true) ⊎ (is_threshold a ≡ true)
tag-passes l a = go (first is_equality l) (first is_threshold l) (first-true is_equality l) (first-true is_threshold l)
  where
    go : (o p : math.Option Atom) → ((b : Atom) → o ≡ some b → is_equality b ≡ true) → ((b : Atom) → p ≡ some b → is_threshold b ≡ true) →
        or_else o p ≡ some a → (is_equality a ≡ true) ⊎ (is_threshold a ≡ true)
    go (some b) p f g e = inl (f a e)
    go none p f g e = inr (g a e)

module _ (atoms measure operator : List ℕ) (key : List ℤ) (node : ℕ) where
  pub node-fits : ((k : ℕ) → get_or measure k 0 < 16) → AllIn key_most key → TagFits (tag_means measure operator key (tag_at atoms operator node))
  node-fits small keys = go (tag_at atoms operator node)
    where
      go : (t : Option ℕ) → TagFits (tag_means measure operator key t)
      go (Some slot) = (small slot, key-room key keys slot)
      go None = tt

  pub node-operator : ((k : ℕ) → get_or operator k 0 ≤ 6) → TagOperator (tag_means measure operator key (tag_at atoms operator node))
  node-operator most = go (tag_at atoms operator node) (sym (tag-means atoms measure operator key (λ k. omega (arith, most k)) node))
    where
      go : (t : Option ℕ) → tag (alternative_at atoms measure operator key node) ≡ tag_means measure operator key t →
          TagOperator (tag_means measure operator key t)
      go (Some slot) e = elim (tag-passes (alternative_at atoms measure operator key node) (atom_at measure operator key slot) e) [
        | inl p ↦ inl (eqb-true (get_or operator slot 0) 1 p)
        | inr p ↦ inr (leb-true 3 (get_or operator slot 0) p, most slot)
      ]
      go None e = tt

-- ---- a sum of eight products is at most 800,000,000 from 0
module _ (coefficients values : List ℤ) (c : AllIn coefficient_most coefficients) (v : AllIn value_most values) where
  measure-within : (first : ℕ) → Within key_room (sum (term coefficients first values) 8)
  unfolding sum
  measure-within first =
      let each : (k : ℕ) → Within 100_000_000 (term coefficients first values k) = λ k. in-mul (c (first + k)) (v k) in
      within_more (in-add (in-add (in-add (in-add (local-within coefficients values first c v) (each 4)) (each 5)) (each 6)) (each 7)) (lit≤ tt)

  pub measures-within : (m : ℕ) → Within key_room (get_or (now_at coefficients values) m (pos 0))
  measures-within m = go (dec_lt m 16)
    where
      go : Dec (m < 16) → Within key_room (get_or (now_at coefficients values) m (pos 0))
      go (yes l) = subst (Within key_room) (sym (now-at coefficients values m l)) (measure-within (m * 8))
      go (no l) = subst (Within key_room) (now-past coefficients values m (omega (arith, l))) (record { abs = omega arith })

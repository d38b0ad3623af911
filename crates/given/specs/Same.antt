-- What is true is said over the values of the measures by their numbers: two lists that agree at every number make the same true, so a search
-- finds and evaluates the same.
use Rattle.std.specs.Prelude.{◌≡◌, refl, ◌&&◌, List, ℕ, ℤ, pos, get_or, length}
use Rattle.std.proofs.Math.Option.{Option, none, some}
use Rattle.rules.specs.Base.{those, all, any}
use Rattle.rules.specs.Condition.{Atom, compares, atom_true, alternative_true, condition_true}
use Rattle.rules.specs.Tag.{tag, holds, tag_holds}
use Rattle.rules.specs.Search.{Waiter, pairs, least, oldest, not_after, found, evaluated}

module _ (one other : List ℤ) (agree : (m : ℕ) → get_or one m (pos 0) ≡ get_or other m (pos 0)) where
  pub atom-same : atom_true one ≡ atom_true other
  atom-same = λ i a. compares a.operator (agree a.measure i) a.key

  pub alternative-same : alternative_true one ≡ alternative_true other
  alternative-same = λ i. all (atom-same i)

  pub condition-same : condition_true one ≡ condition_true other
  condition-same = λ i. any (alternative-same i)

  holds_same : (o : Option Atom) → holds one o ≡ holds other o
  holds_same (some a) = λ i. atom-same i a
  holds_same none = refl

  pub tag_same : tag_holds one ≡ tag_holds other
  tag_same = λ i alternative. holds_same (tag alternative) i

  pub found-same : (ws : List Waiter) → found one ws ≡ found other ws
  found-same ws = λ i. least (those (λ p. alternative-same i p.alternative) (pairs ws))

  pub evaluated-same : (ws : List Waiter) → evaluated one ws ≡ evaluated other ws
  evaluated-same ws = λ i. length (those (λ p. tag_same i p.alternative && not_after (found-same ws i) p) (pairs (oldest ws)))

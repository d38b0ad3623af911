-- The truth of a Wait's condition over its slots: the atom in a slot, closed, is the atom that closure has at that place.
use Rattle.std.specs.Prelude.{◌≡◌, refl, List, map, ℕ, ◌*◌, min, ℤ, get_or}
use Rattle.std.proofs.Common.{ap, ◌∙◌}
use Rattle.rules.specs.Limits.{coefficient_most, value_most}
use Rattle.rules.specs.Base.{all, any}
use Rattle.rules.specs.Condition.{Atom, close, closure, atom_true, alternative_true, condition_true}
use Rattle.condition.specs.Measures.{AllIn}
use Rattle.condition.specs.Along.{all_left, any_left, all_start, any-start}
use Rattle.condition.specs.Closing.{GivenSlots}
use Rattle.condition.specs.From.{from, from-map}
use Rattle.condition.specs.Closes.{given_at, given_alternative, given_condition}

-- what every room and every Wait that was read keep to
pub record GivenRanges (cs vs gs ks ls : List ℤ) : Type 0 where
  pub coefficients : AllIn coefficient_most cs
  pub values : AllIn value_most vs
  pub given : AllIn coefficient_most gs
  pub constants : AllIn value_most ks
  pub locals : AllIn value_most ls

abbrev pub closed_at : GivenSlots → ℕ → Atom
closed_at g slot = close g.locals (given_at g slot)

abbrev pub closed_alternative : GivenSlots → ℕ → List Atom
closed_alternative g i = map (close g.locals) (given_alternative g i)

module _ (now : List ℤ) (g : GivenSlots) where
  pub given-alternative-start : {count : ℕ} (i : ℕ) → count ≡ min (get_or g.counts i 0) 4 →
      all_left (atom_true now) (closed_at g) count 0 (i * 4) ≡ alternative_true now (closed_alternative g i)
  given-alternative-start {count} i e =
      all_start (atom_true now) (closed_at g) count (i * 4) ∙ ap (λ n. all (atom_true now) (from (closed_at g) n (i * 4))) e
      ∙ ap (all (atom_true now)) (from-map (close g.locals) (closed_at g) (given_at g) (min (get_or g.counts i 0) 4) (i * 4) (i * 4) (λ k l. refl))

  pub given-condition-start : {count : ℕ} → count ≡ min g.count 4 →
      any_left (alternative_true now) (closed_alternative g) count 0 0 ≡ condition_true now (closure g.locals (given_condition g))
  given-condition-start {count} e =
      any-start (alternative_true now) (closed_alternative g) count 0 ∙ ap (λ n. any (alternative_true now) (from (closed_alternative g) n 0)) e
      ∙ ap (any (alternative_true now)) (from-map (map (close g.locals)) (closed_alternative g) (given_alternative g) (min g.count 4) 0 0 (λ k l. refl))

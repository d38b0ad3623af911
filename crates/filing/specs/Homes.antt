-- The home of a tag in the index. The key has no part in it, so that of a node is known by the measure and the operator in its tag's slot.
use Rattle.std.specs.Prelude.{Option, Some, None, ◌≡◌, refl, List, ℕ, ◌+◌, ◌*◌, ◌<◌, ◌≤◌, eqb, leb, ℤ, get_or, if◌then◌else◌}
use Rattle.std.proofs.Common.{sym, ap, ◌∙◌, arith, eq-eqb, ne_eqb, le-leb}
use Rattle.std.proofs.Math.Option as math
use Rattle.std.proofs.Math.Option.{none, some}
use Rattle.std.proofs.lemmas.Bool.{lt-leb}
use Rattle.rules.specs.Condition.{Atom}
use Rattle.rules.specs.Tag.{is_equality}
use Rattle.rules.specs.Rank.{is_upward}
use Rattle.rules.specs.Laws.In.{by_bool}
use Rattle.condition.specs.Tags.{tag_at, tag_means}

abbrev pub home : math.Option Atom → ℕ
home none = 33
home (some a) = if is_equality a then 32 else if is_upward a then a.measure * 2 else a.measure * 2 + 1

abbrev pub home_at : List ℕ → List ℕ → Option ℕ → ℕ
home_at measure operator (Some slot) =
    if eqb (get_or operator slot 0) 1 then 32
    else if leb 5 (get_or operator slot 0) then get_or measure slot 0 * 2 else get_or measure slot 0 * 2 + 1
home_at measure operator None = 33

pub home-means : (atoms measure operator : List ℕ) (key : List ℤ) (node : ℕ) → home_at measure operator (tag_at atoms operator node) ≡ home (tag_means measure operator key (tag_at atoms operator node))
home-means atoms measure operator key node = go (tag_at atoms operator node)
  where
    go : (t : Option ℕ) → home_at measure operator t ≡ home (tag_means measure operator key t)
    go (Some slot) = refl
    go None = refl

pub home-at-below : (measure operator : List ℕ) (t : Option ℕ) → ((k : ℕ) → get_or measure k 0 < 16) → home_at measure operator t < 34
home-at-below measure operator (Some slot) small = by_bool (eqb (get_or operator slot 0) 1)
    (λ e. rw e (omega arith))
    (λ e. by_bool (leb 5 (get_or operator slot 0)) (λ u. rw (e, u) (omega (arith, small slot))) (λ u. rw (e, u) (omega (arith, small slot))))
home-at-below measure operator None small = omega arith

-- ---- the four answers of `home_of`
pub small-measure : (measure : List ℕ) (slot : ℕ) {m : ℕ} → m ≡ get_or measure slot 0 → ((k : ℕ) → get_or measure k 0 < 16) → m < 16
small-measure measure slot e small = rw e (small slot)

module _ (atoms measure operator : List ℕ) (node : ℕ) {r : Option ℕ} (is : r ≡ tag_at atoms operator node) where
  pub home-nowhere : r ≡ None → 33 ≡ home_at measure operator (tag_at atoms operator node)
  home-nowhere e = ap (home_at measure operator) (sym e ∙ is)

  module _ {slot : ℕ} (at : r ≡ Some slot) where
    pub home-equality : get_or operator slot 0 ≡ 1 → 32 ≡ home_at measure operator (tag_at atoms operator node)
    home-equality o =
        let h : 32 ≡ home_at measure operator (Some slot) = rw (eq-eqb (get_or operator slot 0) 1 o) in
        h ∙ ap (home_at measure operator) (sym at ∙ is)

    module _ (other : get_or operator slot 0 ≡ 1 → ⊥) {m : ℕ} (measured : m ≡ get_or measure slot 0) where
      pub home-upward : 5 ≤ get_or operator slot 0 → m * 2 ≡ home_at measure operator (tag_at atoms operator node)
      home-upward o =
          let h : get_or measure slot 0 * 2 ≡ home_at measure operator (Some slot) =
          rw (ne_eqb (get_or operator slot 0) 1 other, le-leb 5 (get_or operator slot 0) o) in
          ap (λ n. n * 2) measured ∙ h ∙ ap (home_at measure operator) (sym at ∙ is)

      pub home-downward : get_or operator slot 0 < 5 → m * 2 + 1 ≡ home_at measure operator (tag_at atoms operator node)
      home-downward o =
          let h : get_or measure slot 0 * 2 + 1 ≡ home_at measure operator (Some slot) =
          rw (ne_eqb (get_or operator slot 0) 1 other, lt-leb 5 (get_or operator slot 0) o) in
          ap (λ n. n * 2 + 1) measured ∙ h ∙ ap (home_at measure operator) (sym at ∙ is)

-- Two ranks, and two numbers v and w that are to be in their order. Where the ranks' first numbers differ they decide, as `before` says;
-- where not, what is left of the ranks does.
use Rattle.std.specs.Prelude.{◌≡◌, refl, Bool, true, false, ℕ, ◌<◌, ltb, ℤ, pos, if◌then◌else◌}
use Rattle.std.proofs.Common.{sym, ◌∙◌, arith, ltb-true, ltb-false, lt-ltb, le-ltb}
use Rattle.std.specs.Int.Signed.{lt_z}
use Rattle.rules.specs.Laws.In.{by_bool}
use Rattle.rules.specs.Laws.Bounds.{Within}
use Rattle.ranks.specs.Words.{key_room, biased}
use Rattle.ranks.specs.Biased.{biased-order}

module _ (v w : ℕ) {left : Bool} where
  -- x and y are in the order of a and b
  by_first : (x y : ℤ) (a b : ℕ) → lt_z x y ≡ ltb a b → lt_z y x ≡ ltb b a → (a < b → v < w) → (b < a → w < v) → (a ≡ b → left ≡ ltb v w) →
      (if lt_z x y then true else if lt_z y x then false else left) ≡ ltb v w
  by_first x y a b p q less more same = by_bool (ltb a b)
      (λ t. rw (p ∙ t) (sym (lt-ltb v w (less (ltb-true a b t)))))
      (λ f. by_bool (ltb b a)
      (λ t. rw (p ∙ f, q ∙ t) (sym (le-ltb v w (omega (arith, more (ltb-true b a t))))))
      (λ g. rw (p ∙ f, q ∙ g) (same (omega (arith, ltb-false a b f, ltb-false b a g)))))

  pub by_number : (a b : ℕ) → (a < b → v < w) → (b < a → w < v) → (a ≡ b → left ≡ ltb v w) → (if ltb a b then true else if ltb b a then false else left) ≡ ltb v w
  by_number a b = by_first (pos a) (pos b) a b refl refl

  pub by_key : {x y : ℤ} → Within key_room x → Within key_room y → (biased x < biased y → v < w) → (biased y < biased x → w < v) → (biased x ≡ biased y → left ≡ ltb v w) →
      (if lt_z x y then true else if lt_z y x then false else left) ≡ ltb v w
  by_key {x} {y} p q = by_first x y (biased x) (biased y) (biased-order p q) (biased-order q p)

-- A heap's order, but for a hole: what may stand in the hole is asked by those under it and by the one over it, and a hole that moves up or
-- down leaves an order but for the new hole. `parent` is any function that leads to a lower place.
use Rattle.std.specs.Prelude.{◌≡◌, ℕ, ◌+◌, ◌<◌, ◌≤◌}
use Rattle.std.proofs.Math.Path.{ap}
use Rattle.std.proofs.Common.{arith}
use Rattle.rules.specs.Laws.Cases.{by_eq}

-- v is in order along parent, for the places below n
unfoldable pub Ordered : (ℕ → ℕ) → (ℕ → ℕ) → ℕ → Type 0
Ordered parent v n = (j : ℕ) → 0 < j → j < n → v (parent j) ≤ v j

-- v is in order but for a hole at i
pub record Hole (parent v : ℕ → ℕ) (n i : ℕ) : Type 0 where
  pub rest : (j : ℕ) → 0 < j → j < n → (j ≡ i → ⊥) → (parent j ≡ i → ⊥) → v (parent j) ≤ v j
  pub over : (j : ℕ) → 0 < j → j < n → parent j ≡ i → 0 < i → v (parent i) ≤ v j

-- x may stand at i, as far as those under it ask; those over it
unfoldable pub Kids : (ℕ → ℕ) → (ℕ → ℕ) → ℕ → ℕ → ℕ → Type 0
Kids parent v n i x = (j : ℕ) → 0 < j → j < n → parent j ≡ i → x ≤ v j

unfoldable pub From : (ℕ → ℕ) → (ℕ → ℕ) → ℕ → ℕ → Type 0
From parent v i x = 0 < i → v (parent i) ≤ x

module _ (parent : ℕ → ℕ) (lt : (j : ℕ) → 0 < j → parent j < j) (v : ℕ → ℕ) (n i : ℕ) where
  pub hole-new : Ordered parent v n → Hole parent v (n + 1) n
  unfolding Ordered
  hole-new o = record { rest = λ j a b c d. o j a (omega arith); over = λ j a b c d. absurd (omega (arith, lt j a)) }

  pub kids-new : (x : ℕ) → Kids parent v (n + 1) n x
  unfolding Kids
  kids-new x j a b c = absurd (omega (arith, lt j a))

  pub hole-at : (m : ℕ) → m ≤ n → Ordered parent v n → Hole parent v m i
  unfolding Ordered
  hole-at m h o = record { rest = λ j a b c d. o j a (omega arith); over = λ j a b c d. omega (arith, o j a (omega arith), ap v c, o i d (omega (arith, lt j a))) }

  pub kids-at : (m x : ℕ) → m ≤ n → Ordered parent v n → 0 < i → i < n → x ≤ v (parent i) → Kids parent v m i x
  unfolding Ordered Kids
  kids-at m x h o p q g j a b c = omega (arith, o j a (omega arith), ap v c, o i p q)

module _ (parent : ℕ → ℕ) (lt : (j : ℕ) → 0 < j → parent j < j) (v w : ℕ → ℕ) (n i : ℕ) (o : (j : ℕ) → (j ≡ i → ⊥) → w j ≡ v j) (u : Hole parent v n i) where
  pub hole-up : 0 < i → w i ≡ v (parent i) → Hole parent w n (parent i)
  hole-up p e =
      let above : 0 < parent i → parent i < n → w (parent (parent i)) ≤ v (parent i) =
      λ k l. omega (arith, o (parent (parent i)) (λ z. omega (arith, lt i p, lt (parent i) k)), u.rest (parent i) k l (λ z. omega (arith, lt i p)) (λ z. omega (arith, lt i p, lt (parent i) k))) in
      record {
        rest = λ j a b c d. by_eq j i (λ z. absurd (d (ap parent z)))
            (λ f. by_eq (parent j) i (λ z. omega (arith, ap w z, o j f, u.over j a b z p)) (λ z. omega (arith, o (parent j) z, o j f, u.rest j a b f z)));
        over = λ j a b c k. by_eq j i (λ z. omega (arith, ap w z, above k (omega (arith, lt i p))))
            (λ f. omega (arith, o j f, ap v c, above k (omega (arith, lt j a)), u.rest j a b f (λ z. omega (arith, lt i p))));
      }

  pub kids-up : (x : ℕ) → 0 < i → w i ≡ v (parent i) → x ≤ v (parent i) → Kids parent w n (parent i) x
  unfolding Kids
  kids-up x p e h j a b c = by_eq j i (λ z. omega (arith, ap w z)) (λ f. omega (arith, o j f, ap v c, u.rest j a b f (λ z. omega (arith, lt i p))))

  pub hole-down : (c : ℕ) → 0 < c → c < n → parent c ≡ i → Kids parent v n i (v c) → w i ≡ v c → Hole parent w n c
  unfolding Kids
  hole-down c p q e k y =
      record {
        rest = λ j a b d f. by_eq j i
            (λ z. omega (arith, ap w z, ap parent z, ap w (ap parent z), o (parent i) (λ g. omega (arith, lt i (omega arith))), u.over c p q e (omega arith)))
            (λ z. by_eq (parent j) i (λ g. omega (arith, ap w g, o j z, k j a b g)) (λ g. omega (arith, o j z, o (parent j) g, u.rest j a b z g)));
        over = λ j a b d f. omega (arith, ap w e, ap v d, o j (λ z. omega (arith, lt j a, lt c p)), u.rest j a b (λ z. omega (arith, lt j a, lt c p)) (λ z. omega (arith, lt c p)));
      }

  pub hole-end : (x : ℕ) → From parent v i x → Kids parent v n i x → w i ≡ x → Ordered parent w n
  unfolding From Kids Ordered
  hole-end x f k e j a b = by_eq j i (λ z. omega (arith, ap w z, ap parent z, ap w (ap parent z), o (parent i) (λ y. omega (arith, lt i (omega arith))), f (omega arith)))
      (λ z. by_eq (parent j) i (λ g. omega (arith, ap w g, o j z, k j a b g)) (λ g. omega (arith, o (parent j) g, o j z, u.rest j a b z g)))

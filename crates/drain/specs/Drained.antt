-- A walk over a heap's nodes in the order of their ranks, while their tags hold: each root that is taken off is the next of the list.
use Rattle.std.specs.Prelude.{◌≡◌, refl, Bool, true, false, List, [], ◌∷◌, ℤ, if◌then◌else◌}
use Rattle.std.proofs.Math.Path.{sym, ap}
use Rattle.std.proofs.Common.{◌∙◌}
use Prim.Native.Nat.{ℕ, suc, ◌+◌, ◌-◌, ◌%◌, ◌<◌, ◌≤◌}
use native.Mathlib.Omega.{arith}
use Rattle.std.proofs.Math.ListN.{get_or}
use Rattle.rules.specs.Base.{first}
use Rattle.rules.specs.Tag.{holds}
use Rattle.rules.specs.Laws.InRankOrder.{up_to}
use Rattle.condition.specs.Tags.{tag_at, tag_means}
use Rattle.nodes.specs.Order.{Ordered}
use Rattle.nodes.specs.Holes.{rank_at}
use Rattle.nodes.specs.Rises.{Removed}
use Rattle.nodes.specs.Sorted.{sorted, times_in, Apart}
use Rattle.heap.specs.Places.{above}
use Rattle.heap.specs.Drains.{root-then-rest, root-heads}
use Rattle.walk.specs.declared.Walk.{Walk}
use Rattle.walk.specs.declared.Walk.TheVariants.{Found, Nobody}
use Rattle.walk.specs.Walks.{as_walk, walked_on}

-- the tag of a node's alternative holds; a node is below 128
abbrev pub node_tag : List ℤ → List ℕ → List ℕ → List ℕ → List ℤ → ℕ → Bool
node_tag now atoms measure operator key node = holds now (tag_means measure operator key (tag_at atoms operator (node % 128)))

-- the nodes up to the first whose tag does not hold
unfoldable pub while : (ℕ → Bool) → List ℕ → List ℕ
while tag [] = []
while tag (x ∷ l) = if tag x then x ∷ while tag l else []

-- what is left in the heap, n nodes after so many evaluated, leads to w
pub record Left (rank : ℕ → ℕ) (tag test : ℕ → Bool) (heap : List ℕ) (n before : ℕ) (w : Walk) : Type 0 where
  pub order : Ordered above (rank_at rank heap) n
  pub apart : Apart rank (sorted rank heap n)
  pub leads : walked_on test before (while tag (sorted rank heap n)) ≡ w

module _ (rank : ℕ → ℕ) (tag test : ℕ → Bool) (heap : List ℕ) where
  pub left-start : (n before : ℕ) → Ordered above (rank_at rank heap) n → Apart rank (sorted rank heap n) →
      Left rank tag test heap n before (walked_on test before (while tag (sorted rank heap n)))
  left-start n before o a = record { order = o; apart = a; leads = refl }

  module _ (n before : ℕ) {w : Walk} (c : Left rank tag test heap n before w) where
    pub left-ends : n ≤ 0 → Nobody before ≡ w
    unfolding walked_on while sorted
    left-ends h =
        let z : n ≡ 0 = omega arith in
        let b : before + 0 ≡ before = omega arith in
        ap Nobody (sym b) ∙ (rw z at c.leads)

    module _ {t : Bool} (p : 0 < n) (d : t ≡ tag (get_or heap 0 0)) where
      pub left-fails : t ≡ false → Nobody before ≡ w
      unfolding walked_on while
      left-fails f =
          let r = root-heads rank heap n c.order p c.apart in
          let b : before + 0 ≡ before = omega arith in
          ap Nobody (sym b) ∙ (rw (r.1, sym d ∙ f) at c.leads)

      module _ {u : Bool} (y : t ≡ true) (e : u ≡ test (get_or heap 0 0)) where
        pub left-finds : u ≡ true → Found (get_or heap 0 0) (before + 1) ≡ w
        unfolding walked_on while
        left-finds f =
            let r = root-heads rank heap n c.order p c.apart in
            rw (r.1, sym d ∙ y, sym e ∙ f) at c.leads

        pub left-passes : (m : List ℕ) → u ≡ false → Removed above rank heap m (n - 1) 0 → Left rank tag test m (n - 1) (before + 1) w
        unfolding walked_on while times_in
        left-passes m f r =
            let full : n ≡ n - 1 + 1 = omega arith in
            let o : Ordered above (rank_at rank heap) (n - 1 + 1) = rw full at c.order in
            let a : Apart rank (sorted rank heap (n - 1 + 1)) = rw full at c.apart in
            let s : sorted rank heap (n - 1 + 1) ≡ get_or heap 0 0 ∷ sorted rank m (n - 1) = root-then-rest rank heap m (n - 1) o a r in
            let q : Apart rank (get_or heap 0 0 ∷ sorted rank m (n - 1)) = rw s at a in
            let b : before + 1 + up_to test (while tag (sorted rank m (n - 1))) ≡ before + suc (up_to test (while tag (sorted rank m (n - 1)))) = omega arith in
            record {
              order = r.order o;
              apart = λ y z g h. q y z (omega arith) (omega arith);
              leads = ap (as_walk (first test (while tag (sorted rank m (n - 1))))) b ∙ (rw (full, s, sym d ∙ y, sym e ∙ f) at c.leads);
            }

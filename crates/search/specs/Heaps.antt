-- The nodes of a heap whose tags hold, in the order of ranks; and what a heap has to be for a search to walk it.
use Rattle.std.specs.Prelude.{◌≡◌, refl, Bool, List, [], ◌∷◌, ℕ, zero, suc, ◌*◌, ◌<◌, ◌≤◌, ltb, get_or, length, take, drop}
use Rattle.std.proofs.Common.{ap, ◌∙◌, arith, length-drop, length-take-le}
use Rattle.rules.specs.Laws.In.{by_bool}
use Rattle.nodes.specs.Order.{Ordered}
use Rattle.nodes.specs.Holes.{rank_at}
use Rattle.nodes.specs.Sorted.{sorted, among, Apart}
use Rattle.heap.specs.Places.{above}
use Rattle.homes.specs.Regions.{region}
use Rattle.walk.specs.declared.Walk.{Walk}
use Rattle.walk.specs.Walks.{walked}
use Rattle.drain.specs.Drained.{while}

-- the nodes of heap g whose tag holds
unfoldable pub thresholds : (ℕ → Bool) → (ℕ → ℕ) → List ℕ → List ℕ → ℕ → List ℕ
thresholds tag rank places lengths g = while tag (sorted rank (region places g) (get_or lengths g 0))

pub record Ready (rank : ℕ → ℕ) (places lengths : List ℕ) (g : ℕ) : Type 0 where
  pub few : get_or lengths g 0 ≤ 128
  pub order : Ordered above (rank_at rank (region places g)) (get_or lengths g 0)
  pub apart : Apart rank (sorted rank (region places g) (get_or lengths g 0))

-- k is the number of a heap's places
module _ (rank : ℕ → ℕ) (places lengths : List ℕ) (g k : ℕ) (size : k ≡ 128) where
  pub part-fits : Ready rank places lengths g → length places ≡ 4352 → g < 32 → get_or lengths g 0 ≤ length (take k (drop (g * 128) places))
  part-fits r e h = rw size (omega (arith, r.few, length-take-le 128 (drop (g * 128) places) (omega (arith, length-drop (g * 128) places))))

  pub part-order : Ready rank places lengths g → Ordered above (rank_at rank (take k (drop (g * 128) places))) (get_or lengths g 0)
  part-order r = rw size r.order

  pub part_apart : Ready rank places lengths g → Apart rank (sorted rank (take k (drop (g * 128) places)) (get_or lengths g 0))
  part_apart r = rw size r.apart

  pub part-walked : (test tag : ℕ → Bool) {w : Walk} → w ≡ walked test (while tag (sorted rank (take k (drop (g * 128) places)) (get_or lengths g 0))) → w ≡ walked test (thresholds tag rank places lengths g)
  unfolding thresholds
  part-walked test tag e = rw size at e

pub thresholds-most : (tag : ℕ → Bool) (rank : ℕ → ℕ) (places lengths : List ℕ) (g : ℕ) → Ready rank places lengths g → length (thresholds tag rank places lengths g) ≤ 128
unfolding thresholds while sorted among
thresholds-most tag rank places lengths g r = omega (arith, r.few, while-most (sorted rank (region places g) (get_or lengths g 0)), sorted-long (region places g) (get_or lengths g 0))
  where
    among-long : (x : ℕ) (l : List ℕ) → length (among rank x l) ≡ suc (length l)
    among-long x [] = refl
    among-long x (y ∷ l) = by_bool (ltb (rank y) (rank x)) (λ t. rw t (ap suc (among-long x l))) (λ t. rw t refl)

    sorted-long : (l : List ℕ) (n : ℕ) → length (sorted rank l n) ≡ n
    sorted-long l zero = refl
    sorted-long l (suc n) = among-long (get_or l n 0) (sorted rank l n) ∙ ap suc (sorted-long l n)

    while-most : (l : List ℕ) → length (while tag l) ≤ length l
    while-most [] = omega arith
    while-most (x ∷ l) = by_bool (tag x) (λ t. rw t (omega (arith, while-most l))) (λ t. rw t (omega arith))

-- Taking root after root off a heap gives its nodes in the order of their ranks: the root ranks first, and what is left holds the rest.
use Rattle.std.specs.Prelude.{◌≡◌, List, [], ◌∷◌, ℕ, ◌+◌, ◌<◌, get_or}
use Rattle.std.proofs.Common.{sym, ◌∙◌, arith}
use Rattle.std.proofs.Math.Path.{ap}
use Rattle.nodes.specs.Counts.{count, count-find, count_at, is-self}
use Rattle.nodes.specs.Order.{Ordered}
use Rattle.nodes.specs.Holes.{rank_at}
use Rattle.nodes.specs.Rises.{Removed}
use Rattle.nodes.specs.Sorted.{sorted, times_in, Ascending, Apart, sorted-times, sorted-ascending, head-least, one-order}
use Rattle.heap.specs.Places.{above}
use Rattle.heap.specs.Roots.{root-first}

module _ (rank : ℕ → ℕ) (l m : List ℕ) (n : ℕ) where
  pub root-then-rest : Ordered above (rank_at rank l) (n + 1) → Apart rank (sorted rank l (n + 1)) → Removed above rank l m n 0 →
      sorted rank l (n + 1) ≡ get_or l 0 0 ∷ sorted rank m n
  unfolding times_in Ascending
  root-then-rest o d r =
      one-order rank (sorted rank l (n + 1)) (get_or l 0 0 ∷ sorted rank m n) (sorted-ascending rank l (n + 1)) (
        (λ z h. let f : (j : ℕ) × (j < n + 1) × (get_or l j 0 ≡ z) = count-find l (n + 1) z (omega (arith, sorted-times rank m n z, r.has z)) in
            omega (arith, ap rank f.2, root-first (rank_at rank l) (n + 1) f.0 o f.1)),
        sorted-ascending rank m n,
      )
      (λ z. omega (arith, sorted-times rank l (n + 1) z, sorted-times rank m n z, r.has z)) d

-- the root is the first in the order of ranks
pub root-heads : (rank : ℕ → ℕ) (l : List ℕ) (n : ℕ) → Ordered above (rank_at rank l) n → 0 < n → Apart rank (sorted rank l n) →
    (rest : List ℕ) × (sorted rank l n ≡ get_or l 0 0 ∷ rest)
unfolding times_in
root-heads rank l n o p d = go (sorted rank l n) (sorted-ascending rank l n) (sorted-times rank l n) d
  where
    go : (s : List ℕ) → Ascending rank s → ((z : ℕ) → times_in s z ≡ count l n z) → Apart rank s → (rest : List ℕ) × (s ≡ get_or l 0 0 ∷ rest)
    go [] a e d = absurd (omega (arith, count_at l n 0 p, e (get_or l 0 0)))
    go (x ∷ s) a e d =
        let root = get_or l 0 0 in
        let hx : 0 < times_in (x ∷ s) x = omega (arith, is-self x) in
        let hr : 0 < times_in (x ∷ s) root = omega (arith, count_at l n 0 p, e root) in
        let f : (j : ℕ) × (j < n) × (get_or l j 0 ≡ x) = count-find l n x (omega (arith, e x)) in
        (s, ap (λ (u : ℕ). u ∷ s) (d x root hx hr (omega (arith, head-least rank x s a root hr, ap rank f.2, root-first (rank_at rank l) n f.0 o f.1))))

-- two heaps with the same contents drain alike, whatever their arrangement
pub drains-alike : (rank : ℕ → ℕ) (l m : List ℕ) (n k : ℕ) → Apart rank (sorted rank l n) → ((z : ℕ) → count l n z ≡ count m k z) → sorted rank l n ≡ sorted rank m k
drains-alike rank l m n k d e =
    one-order rank (sorted rank l n) (sorted rank m k) (sorted-ascending rank l n) (sorted-ascending rank m k)
    (λ z. sorted-times rank l n z ∙ e z ∙ sym (sorted-times rank m k z)) d

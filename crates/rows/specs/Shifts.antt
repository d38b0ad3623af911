-- A node leaves a row: those after it stand one place down, and no order is lost, whatever the ranks.
use Rattle.std.specs.Prelude.{◌≡◌, List, ℕ, zero, suc, ◌+◌, ◌-◌, ◌<◌, ◌≤◌, get_or, length}
use Rattle.std.proofs.Math.Path.{ap}
use Rattle.std.proofs.Common.{◌∙◌, arith, add-zero}
use Rattle.rules.specs.Laws.Cases.{by_lt}
use Rattle.nodes.specs.Counts.{count, is, count_same, count-more}
use Rattle.nodes.specs.Order.{Ordered}
use Rattle.nodes.specs.Holes.{rank_at}
use Rattle.nodes.specs.Rises.{Removed}
use Rattle.rows.specs.Places.{previous, earlier-first}

module _ (l m : List ℕ) (k : ℕ) (before : (j : ℕ) → j < k → get_or m j 0 ≡ get_or l j 0) where
  -- d places were copied down
  copied-count : (d z : ℕ) → ((j : ℕ) → k ≤ j → j < k + d → get_or m j 0 ≡ get_or l (j + 1) 0) →
      count m (k + d) z + is (get_or l k 0) z ≡ count l (k + d + 1) z
  copied-count zero z down = rw (add-zero k) (omega (arith, count_same m l k z before, count-more l k z))
  copied-count (suc d) z down =
      rw next
      (omega (
        arith,
        copied-count d z (λ j p q. down j p (omega arith)),
        count-more m (k + d) z,
        count-more l (k + d + 1) z,
        ap (λ (u : ℕ). is u z) (down (k + d) (omega arith) (omega arith)),
      ))
    where
      next : k + suc d ≡ k + d + 1
      next = omega arith

  -- and they were all after place k, up to the last of n + 1
  module _ (n : ℕ) (h : k ≤ n) (copied : (j : ℕ) → k ≤ j → j < n → get_or m j 0 ≡ get_or l (k + 1 + (j - k)) 0) where
    down : (j : ℕ) → k ≤ j → j < n → get_or m j 0 ≡ get_or l (j + 1) 0
    down j p q = copied j p q ∙ ap (λ (u : ℕ). get_or l u 0) (same p)
      where
        same : k ≤ j → k + 1 + (j - k) ≡ j + 1
        same p = omega arith

    pub shift-removes : (rank : ℕ → ℕ) → length m ≡ length l → ((j : ℕ) → n ≤ j → get_or m j 0 ≡ get_or l j 0) →
        Removed previous rank l m n k
    unfolding Ordered
    shift-removes rank long past =
        let all : k + (n - k) ≡ n = omega arith in
        record {
          long = long;
          order = λ o j p q.
              by_lt j k (λ a. omega (arith, ap rank (before j a), ap rank (before (previous j) (omega arith)), o j p (omega arith)))
              (λ a. by_lt (previous j) k
              (λ b. omega (
                arith,
                ap rank (down j (omega arith) q),
                ap rank (before (previous j) b),
                earlier-first (rank_at rank l) (n + 1) (previous j) (j + 1) o (omega arith) (omega arith),
              ))
              (λ b. omega (
                arith,
                ap rank (down j (omega arith) q),
                ap rank (down (previous j) (omega arith) (omega arith)),
                earlier-first (rank_at rank l) (n + 1) (previous j + 1) (j + 1) o (omega arith) (omega arith),
              )));
          has = λ z. rw all at (copied-count (n - k) z (λ j p q. down j p (omega (arith, q))));
          past = past;
        }

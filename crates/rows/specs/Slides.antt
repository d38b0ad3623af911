-- A node leaves a row: a hole that goes down place by place loses no order, whatever the ranks. The code moves the rest at once (Shifts).
use Rattle.std.specs.Prelude.{◌≡◌, List, ℕ, ◌+◌, ◌<◌, ◌≤◌, get_or, set, length}
use Rattle.std.proofs.Math.Path.{ap}
use Rattle.std.proofs.Common.{◌∙◌, get_or-set_other}
use native.Mathlib.Omega.{arith}
use Rattle.rules.specs.Laws.Cases.{by_eq}
use Rattle.nodes.specs.Counts.{is, count-more}
use Rattle.nodes.specs.Order.{Ordered, Hole, Kids, hole-at, hole-down}
use Rattle.nodes.specs.Holes.{rank_at, Moved, moved_more}
use Rattle.nodes.specs.Rises.{Removed}
use Rattle.rows.specs.Places.{previous, previous-lt}

abbrev pub Gap : ℕ → (ℕ → ℕ) → ℕ → Type 0
Gap n v i = Hole previous v (n + 1) i

-- the last of the n + 1 places is never written
pub slid : (l m : List ℕ) (n i y : ℕ) → get_or m n 0 ≡ get_or l n 0 → i < n → get_or (set m i y) n 0 ≡ get_or l n 0
slid l m n i y e h = get_or-set_other m i n y 0 (λ d. omega arith) ∙ e

module _ (rank : ℕ → ℕ) (l m : List ℕ) (n k i : ℕ) (f : n < length l) (r : Moved rank (Gap n) l m (n + 1) k i) where
  pub slide-more : i < n → Moved rank (Gap n) l (set m i (get_or m (i + 1) 0)) (n + 1) k (i + 1)
  unfolding Kids
  slide-more p =
      moved_more rank (Gap n) l m (n + 1) k i (i + 1) (omega arith) r (omega arith) (omega arith)
      (λ w a q. hole-down previous previous-lt (rank_at rank m) w (n + 1) i a.else q (i + 1) (omega arith) (omega arith) (omega arith)
      (λ j g h e. omega (arith, ap (rank_at rank m) (same j g e))) a.new)
    where
      same : (j : ℕ) → 0 < j → previous j ≡ i → j ≡ i + 1
      same j g e = omega arith

  pub slide-end : n ≤ i → get_or m n 0 ≡ get_or l n 0 → Removed previous rank l m n k
  unfolding Ordered
  slide-end p freed =
      record {
        long = r.long;
        order = λ o j g h. (r.order (hole-at previous previous-lt (rank_at rank l) (n + 1) k (n + 1) (omega arith) o)).rest j g (omega arith) (omega arith) (omega arith);
        has = λ z. omega (arith, r.has z, count-more m n z, ap (λ (u : ℕ). is (get_or m u 0) z) (last i p r.here));
        past = λ j h. by_eq j n (λ e. rw e freed) (λ e. r.past j (omega arith));
      }
    where
      last : (i : ℕ) → n ≤ i → i < n + 1 → i ≡ n
      last i p q = omega arith

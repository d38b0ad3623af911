-- The place over another, by the kind of home: half way in a heap, the one before in a row.
use Rattle.std.specs.Prelude.{◌≡◌, Bool, true, false, ℕ, ◌<◌, ◌≤◌, ltb, List}
use Rattle.std.proofs.Common.{lt-ltb, le-ltb}
use Rattle.rules.specs.Laws.Cases.{by_lt}
use Rattle.nodes.specs.Rises.{Pushed, Removed}
use Rattle.heap.specs.Places.{above, above-lt}
use Rattle.rows.specs.Places.{previous, previous-lt}

abbrev pub by_kind : Bool → ℕ → ℕ
by_kind true = above
by_kind false = previous

unfoldable pub over : ℕ → ℕ → ℕ
over home = by_kind (ltb home 32)

module _ (home : ℕ) where
  pub over-heap : home < 32 → over home ≡ above
  unfolding over
  over-heap h = rw (lt-ltb home 32 h)

  pub over-row : 32 ≤ home → over home ≡ previous
  unfolding over
  over-row h = rw (le-ltb home 32 h)

  pub over-lt : (j : ℕ) → 0 < j → over home j < j
  over-lt j p = by_lt home 32 (λ h. rw (over-heap h) (above-lt j p)) (λ h. rw (over-row h) (previous-lt j p))

  module _ (rank : ℕ → ℕ) (l m : List ℕ) (n k : ℕ) where
    pub pushed-heap : home < 32 → Pushed above rank l m n k → Pushed (over home) rank l m n k
    pushed-heap h p = rw (over-heap h) p

    pub pushed_row : 32 ≤ home → Pushed previous rank l m n k → Pushed (over home) rank l m n k
    pushed_row h p = rw (over-row h) p

    pub removed-heap : home < 32 → Removed above rank l m n k → Removed (over home) rank l m n k
    removed-heap h p = rw (over-heap h) p

    pub removed-row : 32 ≤ home → ((rank : ℕ → ℕ) → Removed previous rank l m n k) → Removed (over home) rank l m n k
    removed-row h p = rw (over-row h) (p rank)

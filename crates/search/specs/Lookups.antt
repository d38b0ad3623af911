-- The lookup by a measure's value: its word is that of the equality tags that hold, and the run of that word is walked.
use Rattle.std.specs.Prelude.{◌≡◌, Bool, List, ℕ, ◌+◌, ◌-◌, ◌≤◌, ℤ, pos, get_or, length, take, drop}
use Rattle.std.proofs.Common.{sym, ap, ◌∙◌, subst, arith, lit<, to_z, of_z}
use Rattle.std.specs.Int.{w64}
use Rattle.rules.specs.Laws.Bounds.{Within}
use Rattle.integers.specs.Machine.{is, held}
use Rattle.condition.specs.Measures.{Ranges, now_at}
use Rattle.ranks.specs.Words.{key_room}
use Rattle.filing.specs.Words.{equality_word}
use Rattle.filing.specs.Filed.{measures-within}
use Rattle.nodes.specs.Holes.{rank_at}
use Rattle.rows.specs.Halves.{word_of, Reaches}
use Rattle.walk.specs.declared.Walk.{Walk}
use Rattle.walk.specs.declared.Walk.TheVariants.{Nobody}
use Rattle.walk.specs.Walks.{walked}
use Rattle.search.specs.Runs.{word_run, run_none, run-part, run-most}

-- the nodes whose equality tag is of a measure and holds
abbrev pub equalities : List ℤ → List ℕ → List ℕ → ℕ → ℕ → List ℕ
equalities now high row n m = word_run high row n (equality_word m (get_or now m (pos 0)))

pub equalities-most : (now : List ℤ) (high row : List ℕ) (n m most : ℕ) → n ≤ most → length (equalities now high row n m) ≤ most
equalities-most now high row n m most h = omega (arith, run-most high row n (equality_word m (get_or now m (pos 0))))

pub nothing_walked : (test : ℕ → Bool) (high row : List ℕ) (n w : ℕ) → n ≡ 0 → Nobody 0 ≡ walked test (word_run high row n w)
unfolding walked
nothing_walked test high row n w e = ap (walked test) (run_none high row n w e)

-- a call is handed a value by its bits
module _ (coefficients values key : List ℤ) (m : ℕ) {v : ℤ} (ranges : Ranges coefficients values key) (e : v ≡ get_or (now_at coefficients values) m (pos 0)) where
  within : Within key_room v
  within = subst (Within key_room) (sym e) (measures-within coefficients values ranges.coefficients ranges.values m)

  handed : to_z w64 (of_z w64 v) ≡ v
  handed = is (held within (lit< tt))

  pub value_room : Within key_room (to_z w64 (of_z w64 v))
  value_room = subst (Within key_room) (sym handed) within

  pub looked-up : (test : ℕ → Bool) (high row : List ℕ) (n w a b : ℕ) {r : Walk} → w ≡ equality_word m (to_z w64 (of_z w64 v)) → n ≤ length row →
      Reaches (rank_at (word_of high) row) w n a → Reaches (rank_at (word_of high) row) (w + 1) n b → r ≡ walked test (take (b - a) (drop a row)) →
      r ≡ walked test (word_run high row n (equality_word m (get_or (now_at coefficients values) m (pos 0))))
  looked-up test high row n w a b d fits f g q =
      q ∙ ap (walked test) (run-part high row n w a b fits f g) ∙ ap (λ u. walked test (word_run high row n u)) (d ∙ ap (equality_word m) (handed ∙ e))

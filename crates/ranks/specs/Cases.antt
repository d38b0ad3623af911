-- The high word of a tag by its operator, in the order in which the code asks. A call is handed a key by its bits.
use Rattle.std.specs.Prelude.{◌≡◌, ℕ, ◌%◌, ◌<◌, ◌≤◌, ℤ, neg_ℤ}
use Rattle.std.proofs.Math.Path.{ap}
use Rattle.std.proofs.Common.{◌∙◌, lit<, to_z, of_z}
use Rattle.std.proofs.Math.Option.{none, some}
use Rattle.std.specs.Int.{w64}
use borrow.Author.Tests.{eq-eqb, ne_eqb, le-leb, lt-leb}
use Rattle.rules.specs.Laws.Bounds.{Within}
use Rattle.integers.specs.Machine.{is, held}
use Rattle.ranks.specs.Words.{key_room, biased, packed, high_word}

handed : {key : ℤ} → Within key_room key → to_z w64 (of_z w64 key) ≡ key
handed p = is (held p (lit< tt))

module _ (measure operator : ℕ) (key : ℤ) {b r : ℕ} (p : Within key_room key) where
  pub equality-word : operator ≡ 1 → b ≡ biased (to_z w64 (of_z w64 key)) → r ≡ packed 0 measure 0 b 0 →
      r ≡ high_word (some (record { measure = measure; operator = operator; key = key }))
  unfolding high_word
  equality-word o e w = rw (eq-eqb operator 1 o, ← (e ∙ ap biased (handed p))) w

  module _ (other : operator ≡ 1 → ⊥) where
    pub upward-word : 5 ≤ operator → b ≡ biased (to_z w64 (of_z w64 key)) → r ≡ packed 1 measure 0 b (operator % 2) →
        r ≡ high_word (some (record { measure = measure; operator = operator; key = key }))
    unfolding high_word
    upward-word o e w = rw (ne_eqb operator 1 other, le-leb 5 operator o, ← (e ∙ ap biased (handed p))) w

    pub downward-word : operator < 5 → b ≡ biased (neg_ℤ (to_z w64 (of_z w64 key))) → r ≡ packed 1 measure 1 b (operator % 2) →
        r ≡ high_word (some (record { measure = measure; operator = operator; key = key }))
    unfolding high_word
    downward-word o e w = rw (ne_eqb operator 1 other, lt-leb 5 operator o, ← (e ∙ ap (λ z. biased (neg_ℤ z)) (handed p))) w

pub no-tag-word : {r : ℕ} → r ≡ packed 2 0 0 0 0 → r ≡ high_word none
unfolding high_word
no-tag-word w = w

-- what a caller of `high_word`, who hands a key by its bits too, has of the result
pub handed-word : (measure operator : ℕ) (key : ℤ) {r : ℕ} → Within key_room key → r ≡ high_word (some (record { measure = measure; operator = operator; key = to_z w64 (of_z w64 key) })) →
    r ≡ high_word (some (record { measure = measure; operator = operator; key = key }))
handed-word measure operator key p w = w ∙ ap (λ z. high_word (some (record { measure = measure; operator = operator; key = z }))) (handed p)

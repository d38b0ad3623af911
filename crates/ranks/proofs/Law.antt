-- The order of the words is the order of the ranks: the numbers of a rank stand in its word one below the other, each with room enough, so that
-- the first that differs decides both. Only an equality tag's key has no part in the rank, and equality tags of one measure that hold have one key.
use Rattle.std.specs.Prelude.{◌≡◌, true, List, [], ◌∷◌, ◌++◌, ℕ, ◌+◌, ◌*◌, ◌^◌, ◌<◌, ltb, get_or, ℤ, pos}
use Rattle.std.proofs.Common.{sym, ap, ◌∙◌, arith, le-ltb}
use Rattle.rules.specs.Condition.{Atom}
use Rattle.rules.specs.Tag.{tag, tag_holds}
use Rattle.rules.specs.Rank.{before, rank}
use Rattle.ranks.specs.Words.{biased, low_word, word, TagFits}
use Rattle.ranks.specs.Biased.{same-order, biased-below}
use Rattle.ranks.specs.Digits.{by_number, by_key}
use Rattle.ranks.specs.Classes.{Class, equality, threshold, untagged, class_number, further, high, ClassFits, Valued, high-least, high-below, classed}

-- ---- the low words: ticket, then place
low-order : (t u i k : ℕ) → i < 4 → k < 4 → before (pos t ∷ pos i ∷ []) (pos u ∷ pos k ∷ []) ≡ ltb (low_word t i) (low_word u k)
low-order t u i k p q =
    let v = low_word t i in
    let w = low_word u k in
    by_number v w t u (λ h. omega arith) (λ h. omega arith)
    (λ one-ticket. by_number v w i k (λ h. omega arith) (λ h. omega arith) (λ one_place. sym (le-ltb v w (omega arith))))

-- ---- the high words, above low words in the order of what follows in the ranks
abbrev above : Class → ℕ → ℕ
above c low = high c * 2 ^ 64 + low

module _ (now : List ℤ) (l m : List ℤ) (low₁ low₂ : ℕ) (fits₁ : low₁ < 2 ^ 64) (fits₂ : low₂ < 2 ^ 64) (lower : before l m ≡ ltb low₁ low₂) where
  same_class : (c d : Class) → ClassFits c → ClassFits d → Valued now c → Valued now d → class_number c ≡ class_number d →
      before (further c ++ l) (further d ++ m) ≡ ltb (above c low₁) (above d low₂)
  same_class (equality measure₁ key₁) (equality measure₂ key₂) f g p q e =
      let b₁ = biased-below f.1 in
      let b₂ = biased-below g.1 in
      let v = above (equality measure₁ key₁) low₁ in
      let w = above (equality measure₂ key₂) low₂ in
      by_number v w measure₁ measure₂ (λ h. omega arith) (λ h. omega arith)
      (λ one-measure. lower ∙ same-order low₁ low₂ v w (omega (arith, ap biased (sym p ∙ ap (λ n. get_or now n (pos 0)) one-measure ∙ q))))
  same_class (threshold measure₁ direction₁ key₁ strict₁) (threshold measure₂ direction₂ key₂ strict₂) f g p q e =
      let b₁ = biased-below f.1 in
      let b₂ = biased-below g.1 in
      let v = above (threshold measure₁ direction₁ key₁ strict₁) low₁ in
      let w = above (threshold measure₂ direction₂ key₂ strict₂) low₂ in
      by_number v w measure₁ measure₂ (λ h. omega arith) (λ h. omega arith)
      (λ one-measure. by_number v w direction₁ direction₂ (λ h. omega arith) (λ h. omega arith)
      (λ one-direction. by_key v w f.1 g.1 (λ h. omega arith) (λ h. omega arith)
      (λ one_key. by_number v w strict₁ strict₂ (λ h. omega arith) (λ h. omega arith)
      (λ as-strict. lower ∙ same-order low₁ low₂ v w (omega arith)))))
  same_class untagged untagged f g p q e = lower ∙ same-order low₁ low₂ (above untagged low₁) (above untagged low₂) (omega arith)
  same_class (equality measure₁ key₁) (threshold measure₂ direction₂ key₂ strict₂) f g p q e = absurd (omega arith)
  same_class (equality measure₁ key₁) untagged f g p q e = absurd (omega arith)
  same_class (threshold measure₁ direction₁ key₁ strict₁) (equality measure₂ key₂) f g p q e = absurd (omega arith)
  same_class (threshold measure₁ direction₁ key₁ strict₁) untagged f g p q e = absurd (omega arith)
  same_class untagged (equality measure₂ key₂) f g p q e = absurd (omega arith)
  same_class untagged (threshold measure₂ direction₂ key₂ strict₂) f g p q e = absurd (omega arith)

  by-class : (c d : Class) → ClassFits c → ClassFits d → Valued now c → Valued now d →
      before (pos (class_number c) ∷ further c ++ l) (pos (class_number d) ∷ further d ++ m) ≡ ltb (above c low₁) (above d low₂)
  by-class c d f g p q =
      let c-least = high-least c f in
      let c-below = high-below c f in
      let d-least = high-least d g in
      let d-below = high-below d g in
      by_number (above c low₁) (above d low₂) (class_number c) (class_number d) (λ h. omega arith) (λ h. omega arith) (same_class c d f g p q)

-- ---- the law, of the alternatives number i and k of conditions with the tickets t and u
module _ (now : List ℤ) (a b : List Atom) (t u i k : ℕ) where
  pub word-order : tag_holds now a ≡ true → tag_holds now b ≡ true → TagFits (tag a) → TagFits (tag b) → t < 2 ^ 32 → u < 2 ^ 32 → i < 4 → k < 4 →
      before (rank a t i) (rank b u k) ≡ ltb (word a t i) (word b u k)
  word-order a-holds b-holds a-fits b-fits t-below u-below i-below k-below =
      let c = classed (tag a) a-fits in
      let d = classed (tag b) b-fits in
      rw (c.place_is, c.word-is, d.place_is, d.word-is)
      (by-class now (pos t ∷ pos i ∷ []) (pos u ∷ pos k ∷ []) (low_word t i) (low_word u k) (omega arith) (omega arith) (low-order t u i k i-below k-below)
      c.class d.class c.fits d.fits (c.valued now a-holds) (d.valued now b-holds))

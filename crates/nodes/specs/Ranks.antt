-- A node's rank is one number, of two words: so all order is of numbers.
use Rattle.std.specs.Prelude.{◌≡◌, Some, true, false, List, ℕ, ◌+◌, ◌*◌, ◌%◌, ◌^◌, ◌<◌, ◌≤◌, get_or, ltb}
use Rattle.std.proofs.Math.Path.{sym}
use Rattle.std.proofs.Common.{◌∙◌, arith, Fits, lt-ltb, le-ltb, eq-eqb, ne_eqb}
use Rattle.std.proofs.Math.Decide.{dec_lt}
use Rattle.std.specs.Int.{w64}
use Rattle.std.specs.Ordering.{is_lt, is_some_and, nat_cmp, partial_ordering_then}
use Rattle.rules.specs.Laws.Cases.{by_eq, by_lt}

-- two words as one number
unfoldable pub two : ℕ → ℕ → ℕ
two a b = a * 2 ^ 64 + b

-- the rank of node x: the words at x; a node is below 128
abbrev pub rank : List ℕ → List ℕ → ℕ → ℕ
rank high low x = two (get_or high (x % 128) 0) (get_or low (x % 128) 0)

-- two tests agree
ltb_iff : (a b c d : ℕ) → (a < b → c < d) → (b ≤ a → d ≤ c) → ltb a b ≡ ltb c d
ltb_iff a b c d f g = go (dec_lt a b)
  where
    go : Dec (a < b) → ltb a b ≡ ltb c d
    go (yes h) = lt-ltb a b h ∙ sym (lt-ltb c d (f h))
    go (no h) = le-ltb a b (omega arith) ∙ sym (le-ltb c d (g (omega arith)))

module _ (a b c d : ℕ) where
  pub two-lt : a < c → Fits w64 b → true ≡ ltb (two a b) (two c d)
  unfolding two
  two-lt h f = sym (lt-ltb (two a b) (two c d) (omega arith))

  pub two-gt : c < a → Fits w64 d → false ≡ ltb (two a b) (two c d)
  unfolding two
  two-gt h f = sym (le-ltb (two a b) (two c d) (omega arith))

  pub two-eq : c ≤ a → a ≤ c → ltb b d ≡ ltb (two a b) (two c d)
  unfolding two
  two-eq h f = ltb_iff b d (two a b) (two c d) (omega arith) (omega arith)

  -- two pairs of words compare as their numbers
  pub pairs-compare : Fits w64 b → Fits w64 d →
      is_some_and is_lt (partial_ordering_then (Some (nat_cmp a c)) (Some (nat_cmp b d))) ≡ ltb (two a b) (two c d)
  pairs-compare f g =
      by_lt a c (λ h. rw (lt-ltb a c h) (two-lt h f))
      (λ h. by_eq a c
      (λ e. rw (le-ltb a c h, eq-eqb a c e) (by_lt b d (λ l. rw (lt-ltb b d l) (sym (lt-ltb b d l) ∙ two-eq h (omega arith)))
      (λ l. by_eq b d (λ i. rw (le-ltb b d l, eq-eqb b d i) (sym (le-ltb b d l) ∙ two-eq h (omega arith)))
      (λ i. rw (le-ltb b d l, ne_eqb b d i) (sym (le-ltb b d l) ∙ two-eq h (omega arith))))))
      (λ e. rw (le-ltb a c h, ne_eqb a c e) (two-gt (omega arith) g)))

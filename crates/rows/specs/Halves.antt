-- Where the ranks of a row reach a word: halving keeps those below it on the left and the others on the right, so one place is left. The code
-- has it halved by `partition_point` (Points).
use Rattle.std.specs.Prelude.{◌≡◌, List, ℕ, ◌+◌, ◌%◌, ◌<◌, ◌≤◌, get_or}
use Rattle.std.proofs.Common.{arith}
use Rattle.rules.specs.Laws.Cases.{by_lt}
use Rattle.nodes.specs.Order.{Ordered}
use Rattle.rows.specs.Places.{previous, earlier-first}

-- the first word of node x's rank
abbrev pub word_of : List ℕ → ℕ → ℕ
word_of high x = get_or high (x % 128) 0

-- of n places, those below a have less than w, those from b on do not
pub record Between (v : ℕ → ℕ) (w n a b : ℕ) : Type 0 where
  pub less : (j : ℕ) → j < a → v j < w
  pub more : (j : ℕ) → b ≤ j → j < n → w ≤ v j
  pub order : a ≤ b
  pub most : b ≤ n

-- r is the first of n places that does not have less than w, or n
abbrev pub Reaches : (ℕ → ℕ) → ℕ → ℕ → ℕ → Type 0
Reaches v w n r = Between v w n r r

module _ (v : ℕ → ℕ) (w n : ℕ) where
  pub between-all : Between v w n 0 n
  between-all = record { less = λ j h. absurd (omega arith); more = λ j h p. absurd (omega arith); order = omega arith; most = omega arith }

  module _ (a b m : ℕ) (o : Ordered previous v n) (q : Between v w n a b) (low : a ≤ m) (high : m < b) where
    pub between-right : v m < w → Between v w n (m + 1) b
    between-right h = record {
      less = λ j p. omega (arith, earlier-first v n j m o (omega arith) (omega (arith, q.most)));
      more = q.more;
      order = omega arith;
      most = q.most;
    }

    pub between_left : w ≤ v m → Between v w n a m
    between_left h = record {
      less = q.less;
      more = λ j g p. omega (arith, earlier-first v n m j o g p);
      order = low;
      most = omega (arith, q.most);
    }

  pub between_none : (a b : ℕ) → Between v w n a b → b ≤ a → Reaches v w n a
  between_none a b q h = record { less = q.less; more = λ j g p. q.more j (omega (arith, q.order)) p; order = omega arith; most = omega (arith, q.most, q.order) }

  -- two places that the contract allows are the same
  pub reaches-unique : (r s : ℕ) → Reaches v w n r → Reaches v w n s → r ≡ s
  reaches-unique r s f g =
      by_lt r s (λ h. absurd (omega (arith, g.less r h, f.more r (omega arith) (omega (arith, g.most)))))
      (λ h. by_lt s r (λ k. absurd (omega (arith, f.less s k, g.more s (omega arith) (omega (arith, f.most))))) (λ k. omega arith))

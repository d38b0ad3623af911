-- The run of a row's nodes with one word: those from the first place that does not have less than it to the first that has more.
use Rattle.std.specs.Prelude.{◌≡◌, refl, Bool, true, ℕ, zero, suc, ◌+◌, ◌-◌, ◌<◌, ◌≤◌, eqb, get_or, length, take, drop}
use Rattle.std.proofs.Math.Path.{sym, ap}
use Rattle.std.proofs.Common.{◌∙◌, add-zero}
use mathlib.Core.List.{List, [], ◌∷◌, ◌++◌}
use native.Mathlib.Omega.{arith}
use borrow.Author.Tests.{eq-eqb, ne_eqb}
use Rattle.rules.specs.Base.{those}
use Rattle.rules.specs.Laws.Cases.{by_lt}
use Rattle.rules.specs.Laws.In.{In, by_bool, those-none}
use Rattle.condition.specs.From.{from}
use Rattle.nodes.specs.Holes.{rank_at}
use Rattle.rows.specs.Halves.{word_of, Reaches}
use Rattle.search.specs.Contents.{part-from, from_in}

-- the nodes in the first n places
abbrev pub nodes_of : List ℕ → ℕ → List ℕ
nodes_of row n = from (λ j. get_or row j 0) n 0

unfoldable pub word_run : List ℕ → List ℕ → ℕ → ℕ → List ℕ
word_run high row n w = those (λ x. eqb (word_of high x) w) (nodes_of row n)

from-split : (f : ℕ → ℕ) (k m p : ℕ) → from f (k + m) p ≡ from f k p ++ from f m (p + k)
from-split f zero m p = let e : 0 + m ≡ m = omega arith in rw (e, add-zero p) refl
from-split f (suc k) m p =
    let e : suc k + m ≡ suc (k + m) = omega arith in
    let d : p + suc k ≡ suc p + k = omega arith in
    rw (e, d) (ap (λ l. f p ∷ l) (from-split f k m (suc p)))

those-append : (p : ℕ → Bool) (l m : List ℕ) → those p (l ++ m) ≡ those p l ++ those p m
those-append p [] m = refl
those-append p (x ∷ l) m = by_bool (p x) (λ t. rw t (ap (λ k. x ∷ k) (those-append p l m))) (λ t. rw t (those-append p l m))

those-all : (p : ℕ → Bool) (l : List ℕ) → ((x : ℕ) → In x l → p x ≡ true) → those p l ≡ l
those-all p [] f = refl
those-all p (x ∷ l) f = rw (f x (mathlib.Core.Logic.inl refl)) (ap (λ k. x ∷ k) (those-all p l (λ y h. f y (mathlib.Core.Logic.inr h))))

none_right : (l : List ℕ) → l ++ [] ≡ l
none_right [] = refl
none_right (x ∷ l) = ap (λ k. x ∷ k) (none_right l)

module _ (high row : List ℕ) (n w a b : ℕ) (fits : n ≤ length row) (f : Reaches (rank_at (word_of high) row) w n a) (g : Reaches (rank_at (word_of high) row) (w + 1) n b) where
  abbrev test : ℕ → Bool
  test x = eqb (word_of high x) w

  abbrev at : ℕ → ℕ
  at j = get_or row j 0

  -- the two places are in order
  pub run-order : a ≤ b
  run-order = by_lt b a (λ h. absurd (omega (arith, f.less b h, g.more b (omega arith) (omega (arith, f.most))))) (λ h. h)

  failing : (k p : ℕ) → ((j : ℕ) → p ≤ j → j < p + k → word_of high (at j) ≡ w → ⊥) → those test (from at k p) ≡ []
  failing k p h = those-none test (from at k p) (λ x i. let r = from_in at k p x i in ne_eqb (word_of high x) w (λ e. h r.0 r.1 r.2 (ap (word_of high) r.3 ∙ e)))

  pub run-part : take (b - a) (drop a row) ≡ word_run high row n w
  unfolding word_run
  run-part =
      let o = run-order in
      let e : n ≡ a + (b - a + (n - b)) = omega (arith, o, g.most) in
      let m : a + (b - a) ≡ b = omega (arith, o) in
      let z : 0 + a ≡ a = omega arith in
      let first : those test (from at a 0) ≡ [] = failing a 0 (λ j p q d. omega (arith, f.less j (omega arith))) in
      let last : those test (from at (n - b) b) ≡ [] = failing (n - b) b (λ j p q d. omega (arith, g.more j p (omega (arith, g.most)))) in
      let middle : those test (from at (b - a) a) ≡ from at (b - a) a = those-all test (from at (b - a) a)
      (λ x i. let r = from_in at (b - a) a x i in
      let lower = f.more r.0 r.1 (omega (arith, r.2, g.most)) in
      let upper = g.less r.0 (omega (arith, r.2)) in
      eq-eqb (word_of high x) w (omega (arith, lower, upper, ap (word_of high) r.3))) in
      let split : from at n 0 ≡ from at a 0 ++ (from at (b - a) a ++ from at (n - b) b) =
      ap (λ k. from at k 0) e ∙ from-split at a (b - a + (n - b)) 0
      ∙ ap (λ p. from at a 0 ++ from at (b - a + (n - b)) p) z
      ∙ ap (λ l. from at a 0 ++ l) (from-split at (b - a) (n - b) a ∙ ap (λ p. from at (b - a) a ++ from at (n - b) p) m) in
      part-from row a (b - a) (omega (arith, o, g.most))
      ∙ sym (ap (those test) split
      ∙ those-append test (from at a 0) (from at (b - a) a ++ from at (n - b) b)
      ∙ ap (λ l. l ++ those test (from at (b - a) a ++ from at (n - b) b)) first
      ∙ those-append test (from at (b - a) a) (from at (n - b) b)
      ∙ (λ i. middle i ++ last i)
      ∙ none_right (from at (b - a) a))

pub run-most : (high row : List ℕ) (n w : ℕ) → length (word_run high row n w) ≤ n
unfolding word_run
run-most high row n w = those-most (λ x. eqb (word_of high x) w) (λ j. get_or row j 0) n 0
  where
    those-most : (p : ℕ → Bool) (f : ℕ → ℕ) (n a : ℕ) → length (those p (from f n a)) ≤ n
    those-most p f zero a = omega arith
    those-most p f (suc n) a = by_bool (p (f a)) (λ t. rw t (omega (arith, those-most p f n (suc a)))) (λ t. rw t (omega (arith, those-most p f n (suc a))))

pub run_none : (high row : List ℕ) (n w : ℕ) → n ≡ 0 → [] ≡ word_run high row n w
unfolding word_run
run_none high row n w e = rw e refl

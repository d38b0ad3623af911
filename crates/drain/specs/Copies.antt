-- A copy of a heap's places has its order, and its nodes in the same order of ranks.
use Rattle.std.specs.Prelude.{◌≡◌, refl, Bool, true, false, List, ℕ, zero, suc, ◌+◌, ◌-◌, ◌<◌, ◌≤◌, get_or, set, length}
use Rattle.std.proofs.Common.{sym, ap, ◌∙◌, arith, length-set, get_or-set_same, get_or-set_other}
use Rattle.rules.specs.Laws.Cases.{by_eq}
use Rattle.nodes.specs.Order.{Ordered}
use Rattle.nodes.specs.Holes.{rank_at}
use Rattle.nodes.specs.Sorted.{sorted, Apart}
use Rattle.nodes.specs.Rises.{Removed}
use Rattle.heap.specs.Places.{above, above-lt}
use Rattle.walk.specs.declared.Walk.{Walk}
use Rattle.walk.specs.Walks.{walked, none_before}
use Rattle.drain.specs.Drained.{while, Left, left-passes}

-- m is what k becomes when the first n places of l are put there
pub record Copied (l k m : List ℕ) (n : ℕ) : Type 0 where
  pub long : length m ≡ length k
  pub same : (j : ℕ) → j < n → get_or m j 0 ≡ get_or l j 0
  pub past : (j : ℕ) → n ≤ j → get_or m j 0 ≡ get_or k j 0

pub copied_none : (l k : List ℕ) → Copied l k k 0
copied_none l k = record { long = refl; same = λ j h. absurd (omega arith); past = λ j h. refl }

pub copied_more : (l k m : List ℕ) (i : ℕ) → i < length k → Copied l k m i → Copied l k (set m i (get_or l i 0)) (i + 1)
copied_more l k m i h c =
    let y = get_or l i 0 in
    record {
      long = length-set m i y ∙ c.long;
      same = λ j g. by_eq j i (λ e. rw e (get_or-set_same m i y 0 (omega (arith, c.long)))) (λ d. get_or-set_other m i j y 0 d ∙ c.same j (omega arith));
      past = λ j g. get_or-set_other m i j y 0 (λ e. omega arith) ∙ c.past j (omega arith);
    }

pub copied-done : (l k m : List ℕ) (i n : ℕ) → i ≤ n → n ≤ i → Copied l k m i → Copied l k m n
copied-done l k m i n a b c = let e : i ≡ n = omega arith in rw e at c

same-sorted : (rank : ℕ → ℕ) (l m : List ℕ) (n : ℕ) → ((j : ℕ) → j < n → get_or m j 0 ≡ get_or l j 0) → sorted rank m n ≡ sorted rank l n
unfolding sorted
same-sorted rank l m zero e = refl
same-sorted rank l m (suc n) e = rw (e n (omega arith), same-sorted rank l m n (λ j h. e j (omega arith))) refl

-- what is left in a heap is left in its copy
pub left-copied : (rank : ℕ → ℕ) (tag test : ℕ → Bool) (l k m : List ℕ) (n before : ℕ) {w : Walk} → Copied l k m n → Left rank tag test l n before w → Left rank tag test m n before w
unfolding Ordered
left-copied rank tag test l k m n before c f =
    let e : sorted rank m n ≡ sorted rank l n = same-sorted rank l m n c.same in
    record {
      order = λ j p q. omega (arith, f.order j p q, ap rank (c.same j q), ap rank (c.same (above j) (omega (arith, above-lt j p))));
      apart = rw e f.apart;
      leads = rw e f.leads;
    }

-- a heap whole, with nothing evaluated; and what is left in its copy when the root, whose alternative is false, is taken off
module _ (rank : ℕ → ℕ) (tag test : ℕ → Bool) (l : List ℕ) (n : ℕ) (o : Ordered above (rank_at rank l) n) (a : Apart rank (sorted rank l n)) where
  pub whole : Left rank tag test l n 0 (walked test (while tag (sorted rank l n)))
  whole = record { order = o; apart = a; leads = none_before test (while tag (sorted rank l n)) }

  pub after-root : (k m m' : List ℕ) {t u : Bool} → 0 < n → t ≡ tag (get_or l 0 0) → t ≡ true → u ≡ test (get_or l 0 0) → u ≡ false → Copied l k m n →
      Removed above rank m m' (n - 1) 0 → Left rank tag test m' (n - 1) 1 (walked test (while tag (sorted rank l n)))
  after-root k m m' p d y e f c r =
      let root : get_or m 0 0 ≡ get_or l 0 0 = c.same 0 p in
      left-passes rank tag test m n 0 (left-copied rank tag test l k m n 0 c whole) p (d ∙ ap tag (sym root)) y (e ∙ ap test (sym root)) m' f r

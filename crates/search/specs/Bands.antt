-- Lists of nodes by the bounds of their words. A stretch has, in rising order of rank, all nodes of a set whose words are from one bound to another;
-- stretches that meet make a longer one, and the one that has all words is the whole set in order.
use Rattle.std.specs.Prelude.{◌≡◌, List, [], ◌++◌, ℕ, zero, suc, ◌+◌, ◌*◌, ◌<◌, ◌≤◌}
use Rattle.std.proofs.Common.{inl, inr, arith}
use Rattle.rules.specs.Laws.Cases.{by_lt}
use Rattle.rules.specs.Laws.In.{In, in_left, in_right, in-append}
use Rattle.search.specs.Rising.{Rising, rising-same, rising-append}
use Rattle.search.specs.Stretches.{lists}

module _ (rank word : ℕ → ℕ) (all : List ℕ) where
  -- l is those whose word is from b on and below d, in rising order
  pub record Stretch (b d : ℕ) (l : List ℕ) : Type 0 where
    pub rising : Rising rank l
    pub only : (x : ℕ) → In x l → In x all × (b ≤ word x) × (word x < d)
    pub every : (x : ℕ) → In x all → b ≤ word x → word x < d → In x l

  -- nothing has a word between the bounds
  pub stretch-none : (b d : ℕ) → ((x : ℕ) → In x all → b ≤ word x → word x < d → ⊥) → Stretch b d []
  stretch-none b d f = record { rising = tt; only = λ x h. absurd h; every = f }

  -- a stretch reaches as far as nothing more comes
  pub stretch-reaches : (b c d : ℕ) (l : List ℕ) → c ≤ d → Stretch b c l → ((x : ℕ) → In x all → c ≤ word x → word x < d → ⊥) → Stretch b d l
  stretch-reaches b c d l p s f = record {
    rising = s.rising;
    only = λ x h. let r = s.only x h in (r.0, r.1, omega (arith, r.2));
    every = λ x h g k. by_lt (word x) c (λ z. s.every x h g z) (λ z. absurd (f x h z k));
  }

  pub stretch-whole : (d : ℕ) (l : List ℕ) → Rising rank all → Stretch 0 d l → ((x : ℕ) → In x all → word x < d) → l ≡ all
  stretch-whole d l r s f = rising-same rank l all s.rising r (λ x h. (s.only x h).0) (λ x h. s.every x h (omega arith) (f x h))

  module _ (wordly : (x y : ℕ) → In x all → In y all → word x < word y → rank x < rank y) where
    pub stretch-append : (b c d : ℕ) (l m : List ℕ) → b ≤ c → c ≤ d → Stretch b c l → Stretch c d m → Stretch b d (l ++ m)
    stretch-append b c d l m p q s t = record {
      rising = rising-append rank l m s.rising t.rising (λ x y g h. wordly x y (s.only x g).0 (t.only y h).0 (omega (arith, (s.only x g).2, (t.only y h).1)));
      only = λ x h. elim (in-append x l m h) [ inl g ↦ (let r = s.only x g in (r.0, r.1, omega (arith, r.2))) | inr g ↦ (let r = t.only x g in (r.0, omega (arith, r.1), r.2)) ];
      every = λ x h g k. by_lt (word x) c (λ z. in_left x l m (s.every x h g z)) (λ z. in_right x l m (t.every x h z k));
    }

    -- so many stretches of one width, from the i-th on
    pub stretch-lists : (first width : ℕ) (f : ℕ → List ℕ) (n i : ℕ) →
        ((j : ℕ) → i ≤ j → j < i + n → Stretch (first + j * width) (first + j * width + width) (f j)) → Stretch (first + i * width) (first + (i + n) * width) (lists f n i)
    stretch-lists first width f zero i h =
        let e : i + 0 ≡ i = omega arith in
        rw e (stretch-none (first + i * width) (first + i * width) (λ x a b c. omega arith))
    stretch-lists first width f (suc n) i h =
        let e : first + suc i * width ≡ first + i * width + width = rw (native.Mathlib.Nat.suc-mul i width) (omega arith) in
        let d : i + suc n ≡ suc i + n = omega arith in
        rw d
        (stretch-append (first + i * width) (first + i * width + width) (first + (suc i + n) * width) (f i) (lists f n (suc i)) (omega arith) (end (suc i) n e)
        (h i (omega arith) (omega arith)) (rw e at (stretch-lists first width f n (suc i) (λ j p q. h j (omega arith) (omega arith)))))
      where
        end : (k n : ℕ) → first + k * width ≡ first + i * width + width → first + i * width + width ≤ first + (k + n) * width
        end k n e = rw (native.Mathlib.Nat.add-mul k n width) (omega arith)

-- Arrays of 0, and the index of nobody: no job is in it, so every home is empty, and what it says of a waiting job has nothing to say.
use Rattle.std.specs.Prelude.{◌≡◌, refl, false, List, [], ◌∷◌, ℕ, zero, suc, ◌+◌, ◌*◌, ◌/◌, get_or, length, replicate, take, drop}
use Rattle.std.proofs.Common.{◌∙◌, arith, get_or-drop, ne_eqb}
use Rattle.std.proofs.lemmas.List.{length-replicate}
use Rattle.condition.specs.Closing.{ClosedSlots}
use Rattle.nodes.specs.Counts.{count}
use Rattle.nodes.specs.Order.{Ordered}
use Rattle.nodes.specs.Ranks.{rank}
use Rattle.index.specs.Filed.{home_in, is_node, Filed}
use Rattle.index.specs.Index.{Index}

-- ---- arrays of 0
pub everywhere : {A : Type 0} (d : A) (n k : ℕ) → get_or (replicate n d) k d ≡ d
everywhere d zero k = refl
everywhere d (suc n) zero = refl
everywhere d (suc n) (suc k) = everywhere d n k

pub zeros : (n k : ℕ) → get_or (replicate {A = ℕ} n 0) k 0 ≡ 0
zeros = everywhere {A = ℕ} 0

pub long : (n : ℕ) → length (replicate {A = ℕ} n 0) ≡ n
long n = length-replicate {A = ℕ} n 0

take-zero : (n : ℕ) (l : List ℕ) (j : ℕ) → get_or l j 0 ≡ 0 → get_or (take n l) j 0 ≡ 0
take-zero zero l j e = refl
take-zero (suc n) [] j e = refl
take-zero (suc n) (x ∷ l) zero e = e
take-zero (suc n) (x ∷ l) (suc j) e = take-zero n l j e

-- ---- an index of nobody
module _ (s : ClosedSlots) (ticket entry high low places lengths : List ℕ) (nobody : (j : ℕ) → get_or entry j 0 ≡ 0) (empty : (k : ℕ) → get_or places k 0 ≡ 0) (none : (h : ℕ) → get_or lengths h 0 ≡ 0) where
  no_node : (x : ℕ) → is_node s entry x ≡ false
  no_node x = rw (ne_eqb (get_or entry (x / 4) 0) (x / 4 + 1) (λ z. omega (arith, z, nobody (x / 4))))

  no-nodes : length places ≡ 4352 → length lengths ≡ 34 → Filed (rank high low) (home_in s) (is_node s entry) places lengths
  unfolding count Ordered
  no-nodes l m = record {
    has = λ h x p. rw (none h, no_node x) refl;
    order = λ h p j a b. absurd (omega (arith, none h));
    cleared = λ h p j a. take-zero 128 (drop (h * 128) places) j (get_or-drop (h * 128) places j 0 ∙ empty (h * 128 + j));
    long = l;
    many = m;
  }

  pub index-of-nobody : length entry ≡ 32 → length places ≡ 4352 → length lengths ≡ 34 → Index s ticket entry high low places lengths
  index-of-nobody e l m = record {
    entries = λ j w. absurd (omega (arith, nobody j));
    distinct = λ j k w v t. absurd (omega (arith, nobody j));
    size = e;
    words = λ j i w h. absurd (omega (arith, nobody j));
    filed = no-nodes l m;
  }

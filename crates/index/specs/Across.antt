-- Sums over the first numbers, and by them how many nodes a home may have: as many as there are numbers that it may hold, if it holds each once.
use Rattle.std.specs.Prelude.{◌≡◌, refl, List, ℕ, zero, suc, ◌+◌, ◌*◌, ◌/◌, ◌<◌, ◌≤◌, get_or}
use Rattle.std.proofs.Common.{ap, arith}
use Rattle.rules.specs.Laws.Cases.{by_eq}
use Rattle.nodes.specs.Counts.{is, is-self, is-not, count, count_at}

-- f at every number below k
unfoldable pub across : (ℕ → ℕ) → ℕ → ℕ
across f zero = 0
across f (suc k) = across f k + f k

pub across-same : (f g : ℕ → ℕ) (k : ℕ) → ((z : ℕ) → f z ≡ g z) → across f k ≡ across g k
unfolding across
across-same f g zero e = refl
across-same f g (suc k) e = omega (arith, across-same f g k e, e k)

across-add : (f g : ℕ → ℕ) (k : ℕ) → across (λ z. f z + g z) k ≡ across f k + across g k
unfolding across
across-add f g zero = refl
across-add f g (suc k) = omega (arith, across-add f g k)

across-most : (f : ℕ → ℕ) (k : ℕ) → ((z : ℕ) → z < k → f z ≤ 1) → across f k ≤ k
unfolding across
across-most f zero h = omega arith
across-most f (suc k) h = omega (arith, across-most f k (λ z p. h z (omega arith)), h k (omega arith))

across-none : (k : ℕ) → across (λ z. 0) k ≡ 0
unfolding across
across-none zero = refl
across-none (suc k) = omega (arith, across-none k)

across-not : (y k : ℕ) → k ≤ y → across (is y) k ≡ 0
unfolding across
across-not y zero h = refl
across-not y (suc k) h = omega (arith, across-not y k (omega arith), is-not y k (omega arith))

across-is : (y k : ℕ) → y < k → across (is y) k ≡ 1
unfolding across
across-is y zero h = absurd (omega arith)
across-is y (suc k) h = by_eq y k (λ e. omega (arith, across-not y k (omega arith), ap (λ (i : ℕ). is i k) e, is-self k)) (λ d. omega (arith, across-is y k (omega arith), is-not y k d))

is-most : (y z : ℕ) → is y z ≤ 1
is-most y z = by_eq y z (λ e. rw e (omega (arith, is-self z))) (λ d. omega (arith, is-not y z d))

-- the places of a list, each counted where its number is
across-count : (l : List ℕ) (n k : ℕ) → ((j : ℕ) → j < n → get_or l j 0 < k) → across (count l n) k ≡ n
unfolding count
across-count l zero k h = across-none k
across-count l (suc n) k h = omega (arith, across-add (count l n) (is (get_or l n 0)) k, across-count l n k (λ j p. h j (omega arith)), across-is (get_or l n 0) k (h n (omega arith)))

-- ---- n places with numbers below 128, no number twice
module _ (l : List ℕ) (n : ℕ) (below : (z : ℕ) → 0 < count l n z → z < 128) (once : (z : ℕ) → count l n z ≤ 1) where
  pub placed : across (count l n) 128 ≡ n
  placed = across-count l n 128 (λ j p. below (get_or l j 0) (count_at l n j p))

  pub at-most-all : n ≤ 128
  at-most-all = omega (arith, placed, across-most (count l n) 128 (λ z p. once z))

  -- and none of four that follow each other
  pub at-most-rest : (job : ℕ) → job < 32 → ((z : ℕ) → z / 4 ≡ job → count l n z ≡ 0) → n ≤ 124
  at-most-rest job small free = omega (
    arith,
    placed,
    across-most with-four 128 (λ z p. once_more z),
    across-add (λ z. count l n z + is a z + is (a + 1) z + is (a + 2) z) (is (a + 3)) 128,
    across-add (λ z. count l n z + is a z + is (a + 1) z) (is (a + 2)) 128,
    across-add (λ z. count l n z + is a z) (is (a + 1)) 128,
    across-add (count l n) (is a) 128,
    across-is a 128 (omega arith),
    across-is (a + 1) 128 (omega arith),
    across-is (a + 2) 128 (omega arith),
    across-is (a + 3) 128 (omega arith),
  )
    where
      a : ℕ
      a = job * 4

      with-four : ℕ → ℕ
      with-four z = count l n z + is a z + is (a + 1) z + is (a + 2) z + is (a + 3) z

      one : (z : ℕ) → count l n z ≡ 0 → with-four z ≤ 1
      one z none =
          by_eq a z (λ p. omega (arith, is-most a z, is-not (a + 1) z (omega arith), is-not (a + 2) z (omega arith), is-not (a + 3) z (omega arith)))
          (λ p.
          by_eq (a + 1) z (λ q. omega (arith, is-not a z p, is-most (a + 1) z, is-not (a + 2) z (omega arith), is-not (a + 3) z (omega arith)))
          (λ q.
          by_eq (a + 2) z (λ r. omega (arith, is-not a z p, is-not (a + 1) z q, is-most (a + 2) z, is-not (a + 3) z (omega arith)))
          (λ r. omega (arith, is-not a z p, is-not (a + 1) z q, is-not (a + 2) z r, is-most (a + 3) z))))

      once_more : (z : ℕ) → with-four z ≤ 1
      once_more z = by_eq (z / 4) job (λ e. one z (free z e)) (λ d. omega (arith, once z, is-not a z (omega arith), is-not (a + 1) z (omega arith), is-not (a + 2) z (omega arith), is-not (a + 3) z (omega arith)))

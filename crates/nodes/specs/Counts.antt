-- What stands in the first n places, by counting: a store takes one out and puts one in.
use Rattle.std.specs.Prelude.{◌≡◌, refl, Bool, true, false, List, ℕ, zero, suc, ◌+◌, ◌<◌, get_or, set, length, eqb}
use Rattle.std.proofs.Common.{ap, arith, add-one, get_or-set_same, get_or-set_other, eq-eqb, ne_eqb}
use Rattle.rules.specs.Laws.Cases.{by_eq}

abbrev pub bit : Bool → ℕ
bit true = 1
bit false = 0

-- 1 where y is z
pub is : ℕ → ℕ → ℕ
is y z = bit (eqb y z)

pub is-self : (y : ℕ) → is y y ≡ 1
unfolding is
is-self y = ap bit (eq-eqb y y refl)

pub is-not : (y z : ℕ) → (y ≡ z → ⊥) → is y z ≡ 0
unfolding is
is-not y z d = ap bit (ne_eqb y z d)

-- how often z stands in the first n places
unfoldable pub count : List ℕ → ℕ → ℕ → ℕ
count l zero z = 0
count l (suc n) z = count l n z + is (get_or l n 0) z

pub count-more : (l : List ℕ) (n z : ℕ) → count l (n + 1) z ≡ count l n z + is (get_or l n 0) z
unfolding count
count-more l n z = rw add-one refl

-- places that agree have the same count
pub count_same : (l m : List ℕ) (n z : ℕ) → ((j : ℕ) → j < n → get_or l j 0 ≡ get_or m j 0) → count l n z ≡ count m n z
unfolding count
count_same l m zero z h = refl
count_same l m (suc n) z h = rw (count_same l m n z (λ j p. h j (omega arith)), h n (omega arith)) refl

-- a store at place j of the n: what stood there goes, v comes
pub count_set : (l : List ℕ) (n j v z : ℕ) → j < n → j < length l → count (set l j v) n z + is (get_or l j 0) z ≡ count l n z + is v z
unfolding count
count_set l zero j v z p q = absurd (omega arith)
count_set l (suc n) j v z p q =
    by_eq j n
    (λ e. rw (e) (omega (arith, ap (λ (i : ℕ). count (set l i v) n z) e, count_same (set l n v) l n z (λ k r. get_or-set_other l n k v 0 (omega arith)), ap (λ (y : ℕ). is y z) (get_or-set_same l n v 0 (omega arith)))))
    (λ e. omega (arith, count_set l n j v z (omega arith) q, ap (λ (y : ℕ). is y z) (get_or-set_other l j n v 0 (omega arith))))

-- what is counted stands somewhere
pub count-find : (l : List ℕ) (n z : ℕ) → 0 < count l n z → (j : ℕ) × (j < n) × (get_or l j 0 ≡ z)
unfolding count
count-find l zero z h = absurd (omega arith)
count-find l (suc n) z h = by_eq (get_or l n 0) z (λ e. (n, omega arith, e))
    (λ d. let r : (j : ℕ) × (j < n) × (get_or l j 0 ≡ z) = count-find l n z (omega (arith, is-not (get_or l n 0) z d)) in (r.0, omega (arith, r.1), r.2))

-- what stands somewhere is counted
pub count_at : (l : List ℕ) (n j : ℕ) → j < n → 0 < count l n (get_or l j 0)
unfolding count
count_at l zero j h = absurd (omega arith)
count_at l (suc n) j h = by_eq j n (λ e. rw e (omega (arith, is-self (get_or l n 0)))) (λ d. omega (arith, count_at l n j (omega arith)))

-- The closed slots of a job hold the rules' closure of the Wait's condition: slot by slot, measure and operator as given, and the key that the
-- local values leave; and the slots of the other jobs hold what they held.
use Rattle.std.specs.Prelude.{◌≡◌, refl, List, [], ◌∷◌, map, ℕ, zero, suc, ◌+◌, ◌*◌, ◌<◌, ◌≤◌, min, ℤ, pos, ◌+ℤ◌, ◌*ℤ◌, get_or, length}
use Rattle.std.proofs.Common.{sym, ap, ◌∙◌, add-zero, suc-mul, mul-le-mul, le_refl, arith, get_or-set_same, get_or-set_other}
use Rattle.std.proofs.Math.Decide.{dec_lt}
use Rattle.std.proofs.lemmas.List.Edits.{sets}
use Rattle.rules.specs.Condition.{Given, Atom, Condition, products, close, closure}
use Rattle.integers.specs.Sums.{sum, sum-front}
use Rattle.condition.specs.Closed.{atom_at, alternative_at, condition_at}
use Rattle.condition.specs.From.{from, next_place, from-many, from-map, from-same}
use Rattle.condition.specs.StoredFrom.{stored-before, stored-after, stored-in}
use Rattle.condition.specs.Closing.{key_at, ClosedSlots, GivenSlots, put_closed}

-- ---- a Wait's condition, as it stands in its slots
abbrev pub given_at : GivenSlots → ℕ → Given
given_at g slot = record {
  measure = get_or g.measure slot 0;
  operator = get_or g.operator slot 0;
  coefficients = from (λ k. get_or g.coefficients k (pos 0)) 4 (slot * 4);
  constant = get_or g.constant slot (pos 0);
}

abbrev pub given_alternative : GivenSlots → ℕ → List Given
given_alternative g i = from (given_at g) (min (get_or g.counts i 0) 4) (i * 4)

abbrev pub given_condition : GivenSlots → List (List Given)
given_condition g = from (given_alternative g) (min g.count 4) 0

-- ---- the key
pub products-sum : (n : ℕ) (f : ℕ → ℤ) (p : ℕ) (l : List ℤ) → length l ≡ n → products (from f n p) l ≡ sum (λ k. f (p + k) *ℤ get_or l k (pos 0)) n
unfolding sum
products-sum zero f p l e = refl
products-sum (suc n) f p (x ∷ l) e =
    let less : length l ≡ n = omega (arith, e) in
    let rest : products (from f n (suc p)) l ≡ sum (λ k. f (p + suc k) *ℤ get_or l k (pos 0)) n =
    products-sum n f (suc p) l less ∙ ap (λ g. sum g n) (λ i k. f (next_place p k i) *ℤ get_or l k (pos 0)) in
    (λ i. (f (sym (add-zero p) i) *ℤ x) +ℤ rest i) ∙ sym (sum-front (λ k. f (p + k) *ℤ get_or (x ∷ l) k (pos 0)) n)
products-sum (suc n) f p [] e = absurd (omega (arith, e))

pub key-closes : (g : GivenSlots) (slot : ℕ) → length g.locals ≡ 4 → key_at g.coefficients g.locals g.constant slot ≡ (close g.locals (given_at g slot)).key
key-closes g slot e = ap (λ z. z +ℤ get_or g.constant slot (pos 0)) (sym (products-sum 4 (λ k. get_or g.coefficients k (pos 0)) (slot * 4) g.locals e))

-- blocks of n slots do not overlap
blocks : (n i j : ℕ) → i < j → i * n + n ≤ j * n
blocks n i j h = rw (suc-mul i n) at (mul-le-mul h (le_refl n))

-- ---- the job's own slots
pub record Sized (s : ClosedSlots) : Type 0 where
  pub alternatives : length s.alternatives ≡ 32
  pub atoms : length s.atoms ≡ 128
  pub measure : length s.measure ≡ 512
  pub operator : length s.operator ≡ 512
  pub key : length s.key ≡ 512

-- the condition of a job in closed slots
abbrev pub condition_in : ClosedSlots → ℕ → Condition
condition_in s job = condition_at s.alternatives s.atoms s.measure s.operator s.key job

abbrev atom_in : ClosedSlots → ℕ → Atom
atom_in s slot = atom_at s.measure s.operator s.key slot

abbrev pub alternative_in : ClosedSlots → ℕ → List Atom
alternative_in s node = alternative_at s.atoms s.measure s.operator s.key node

module _ (job : ℕ) (small : job < 32) (s : ClosedSlots) (sized : Sized s) (g : GivenSlots) where
  abbrev s' : ClosedSlots
  s' = put_closed job s g

  module _ (four : length g.locals ≡ 4) where
    atom-closes : (slot : ℕ) → slot < 16 → atom_in s' (job * 16 + slot) ≡ close g.locals (given_at g slot)
    atom-closes slot h =
        let m = stored-in 0 (λ k. get_or g.measure k 0) 16 s.measure (job * 16) 0 slot h (omega (arith, sized.measure)) in
        let o = stored-in 0 (λ k. get_or g.operator k 0) 16 s.operator (job * 16) 0 slot h (omega (arith, sized.operator)) in
        let k = stored-in (pos 0) (key_at g.coefficients g.locals g.constant) 16 s.key (job * 16) 0 slot h (omega (arith, sized.key)) in
        let z : 0 + slot ≡ slot = omega arith in
        λ i. record {
          measure = (m ∙ ap (λ n. get_or g.measure n 0) z) i;
          operator = (o ∙ ap (λ n. get_or g.operator n 0) z) i;
          key = (k ∙ ap (key_at g.coefficients g.locals g.constant) z ∙ key-closes g slot four) i;
        }

    alternative-closes : (i : ℕ) → i < 4 → alternative_in s' (job * 4 + i) ≡ map (close g.locals) (given_alternative g i)
    alternative-closes i h =
        let n = stored-in 0 (λ k. get_or g.counts k 0) 4 s.atoms (job * 4) 0 i h (omega (arith, sized.atoms)) in
        let z : 0 + i ≡ i = omega arith in
        ap (λ c. from (atom_in s') (min c 4) ((job * 4 + i) * 4)) (n ∙ ap (λ k. get_or g.counts k 0) z)
        ∙ from-map (close g.locals) (atom_in s') (given_at g) (min (get_or g.counts i 0) 4) ((job * 4 + i) * 4) (i * 4) (λ k l.
        let e : (job * 4 + i) * 4 + k ≡ job * 16 + (i * 4 + k) = omega arith in
        ap (atom_in s') e ∙ atom-closes (i * 4 + k) (omega arith))

    pub closes : condition_in s' job ≡ closure g.locals (given_condition g)
    closes =
        ap (λ c. from (alternative_in s') (min c 4) (job * 4)) (get_or-set_same s.alternatives job g.count 0 (omega (arith, sized.alternatives)))
        ∙ from-map (map (close g.locals)) (alternative_in s') (given_alternative g) (min g.count 4) (job * 4) 0 (λ i l.
        let z : i ≡ 0 + i = omega arith in
        alternative-closes i (omega arith) ∙ ap (λ k. map (close g.locals) (given_alternative g k)) z)

  -- ---- and those of the others
  module _ (j : ℕ) (other : j ≡ job → ⊥) where
    kept : {A : Type 0} (d : A) (f : ℕ → A) (n : ℕ) (out : List A) (slot : ℕ) → j * n ≤ slot → slot < j * n + n → get_or (sets out (job * n) (from f n 0)) slot d ≡ get_or out slot d
    kept d f n out slot l h = go (dec_lt j job)
      where
        go : Dec (j < job) → get_or (sets out (job * n) (from f n 0)) slot d ≡ get_or out slot d
        go (yes q) = stored-before d (from f n 0) out (job * n) slot (omega (arith, blocks n j job q))
        go (no q) = stored-after d (from f n 0) out (job * n) slot (rw (from-many f n 0) (omega (arith, blocks n job j (omega (arith, q, other)))))

    atom-kept : (slot : ℕ) → j * 16 ≤ slot → slot < j * 16 + 16 → atom_in s' slot ≡ atom_in s slot
    atom-kept slot l h = λ i. record {
      measure = kept 0 (λ k. get_or g.measure k 0) 16 s.measure slot l h i;
      operator = kept 0 (λ k. get_or g.operator k 0) 16 s.operator slot l h i;
      key = kept (pos 0) (key_at g.coefficients g.locals g.constant) 16 s.key slot l h i;
    }

    pub alternative-kept : (i : ℕ) → i < 4 → alternative_in s' (j * 4 + i) ≡ alternative_in s (j * 4 + i)
    alternative-kept i h =
        ap (λ c. from (atom_in s') (min c 4) ((j * 4 + i) * 4)) (kept 0 (λ k. get_or g.counts k 0) 4 s.atoms (j * 4 + i) (omega arith) (omega arith))
        ∙ from-same (atom_in s') (atom_in s) (min (get_or s.atoms (j * 4 + i) 0) 4) ((j * 4 + i) * 4) (λ k l. atom-kept ((j * 4 + i) * 4 + k) (omega arith) (omega arith))

    pub others-kept : condition_in s' j ≡ condition_in s j
    others-kept =
        ap (λ c. from (alternative_in s') (min c 4) (j * 4)) (get_or-set_other s.alternatives job j g.count 0 other)
        ∙ from-same (alternative_in s') (alternative_in s) (min (get_or s.alternatives j 0) 4) (j * 4) (λ i l. alternative-kept i (omega arith))

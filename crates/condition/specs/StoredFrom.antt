-- What was stored one after the other, from a place on: the places before and after are as they were.
use Rattle.std.specs.Prelude.{◌≡◌, refl, List, [], ◌∷◌, ◌++◌, ℕ, zero, suc, ◌+◌, ◌<◌, ◌≤◌, get_or, set, length}
use Rattle.std.proofs.Common.{sym, ap, ◌∙◌, add-zero, zero-add, add-one, arith, length-set, get_or-set_same, get_or-set_other}
use Rattle.std.proofs.lemmas.List.Edits.{sets}
use Rattle.condition.specs.From.{from, next_place, from-many, from_more}

sets_more : {A : Type 0} (out : List A) (p : ℕ) (l : List A) (a : A) → sets out p (l ++ (a ∷ [])) ≡ set (sets out p l) (p + length l) a
sets_more out p [] a = ap (λ k. set out k a) (sym (add-zero p))
sets_more out p (x ∷ l) a = sets_more (set out p x) (suc p) l a ∙ ap (λ k. set (sets (set out p x) (suc p) l) k a) (next_place p (length l))

-- the first i are stored
pub record StoredUpTo {A : Type 0} (f : ℕ → A) (first : ℕ) (out₀ out : List A) (i : ℕ) : Type 0 where
  pub is : out ≡ sets out₀ first (from f i 0)

module _ {A : Type 0} (f : ℕ → A) (first : ℕ) (out₀ : List A) where
  pub put-none : StoredUpTo f first out₀ out₀ 0
  put-none = record { is = refl }

  -- a is what the machine stores for the next
  pub put-more : (out : List A) (i : ℕ) {a : A} → a ≡ f i → StoredUpTo f first out₀ out i → StoredUpTo f first out₀ (set out (first + i) a) (i + 1)
  put-more out i {a} e p = record {
    is = (λ k. set (p.is k) (first + i) (e k))
        ∙ ap (λ n. set (sets out₀ first (from f i 0)) (first + n) (f i)) (sym (from-many f i 0)) ∙ sym (sets_more out₀ first (from f i 0) (f i))
        ∙ ap (sets out₀ first) (ap (λ k. from f i 0 ++ (f k ∷ [])) (sym (zero-add i)) ∙ sym (from_more f i 0) ∙ ap (λ n. from f n 0) (sym (add-one i)));
  }

  pub put_all : {n i : ℕ} {out : List A} → n ≡ i → StoredUpTo f first out₀ out i → out ≡ sets out₀ first (from f n 0)
  put_all e p = p.is ∙ ap (λ n. sets out₀ first (from f n 0)) (sym e)

-- what was stored from p on
module _ {A : Type 0} (d : A) where
  pub stored-before : (l out : List A) (p k : ℕ) → k < p → get_or (sets out p l) k d ≡ get_or out k d
  stored-before [] out p k h = refl
  stored-before (a ∷ l) out p k h = stored-before l (set out p a) (suc p) k (omega arith) ∙ get_or-set_other out p k a d (λ e. omega (arith, e))

  pub stored-after : (l out : List A) (p k : ℕ) → p + length l ≤ k → get_or (sets out p l) k d ≡ get_or out k d
  stored-after [] out p k h = refl
  stored-after (a ∷ l) out p k h = stored-after l (set out p a) (suc p) k (omega arith) ∙ get_or-set_other out p k a d (λ e. omega (arith, e))

  pub stored-in : (f : ℕ → A) (n : ℕ) (out : List A) (p q k : ℕ) → k < n → p + n ≤ length out → get_or (sets out p (from f n q)) (p + k) d ≡ f (q + k)
  stored-in f zero out p q k h l = absurd (omega arith)
  stored-in f (suc n) out p q zero h l =
      ap (λ m. get_or (sets (set out p (f q)) (suc p) (from f n (suc q))) m d) (add-zero p)
      ∙ stored-before (from f n (suc q)) (set out p (f q)) (suc p) p (omega arith)
      ∙ get_or-set_same out p (f q) d (omega arith) ∙ ap f (sym (add-zero q))
  stored-in f (suc n) out p q (suc k) h l =
      ap (λ m. get_or (sets (set out p (f q)) (suc p) (from f n (suc q))) m d) (sym (next_place p k))
      ∙ stored-in f n (set out p (f q)) (suc p) (suc q) k (omega arith) (rw (length-set out p (f q)) (omega arith)) ∙ ap f (next_place q k)

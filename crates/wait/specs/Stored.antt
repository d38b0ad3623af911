-- A Wait's condition stored as that of its job: a store changes the job's own places only, so the other jobs' conditions, nodes and rank words are
-- what they were; and what comes in keeps to document 01's ranges, so all of it does.
use Rattle.std.specs.Prelude.{◌≡◌, List, ℕ, zero, suc, ◌+◌, ◌*◌, ◌<◌, ◌≤◌, pos, get_or, set, length}
use Rattle.std.proofs.Common.{sym, ap, ◌∙◌, subst, arith, length-set, get_or-set_same, get_or-set_other}
use Rattle.std.proofs.Math.ListN.{get_or-eq_default}
use Rattle.std.proofs.lemmas.List.Edits.{sets}
use Rattle.std.proofs.Math.Seq.{length-sets}
use Rattle.rules.specs.Laws.Cases.{by_eq, by_lt}
use Rattle.rules.specs.Limits.{coefficient_most, value_most, key_most}
use Rattle.rules.specs.Laws.Bounds.{Within, in-add}
use Rattle.condition.specs.Measures.{AllIn}
use Rattle.condition.specs.Closed.{alternative_at}
use Rattle.condition.specs.From.{from, from-many}
use Rattle.condition.specs.Closing.{ClosedSlots, GivenSlots, put_closed, key_at, keys_from, first_of, local-within}
use Rattle.condition.specs.StoredFrom.{stored-before, stored-after, stored-in}
use Rattle.condition.specs.Closes.{Sized, condition_in, alternative-kept, others-kept}
use Rattle.search.specs.Live.{SlotsFit}

-- ---- what is so of all that stood there and of all that comes is so of all
module _ {A : Type 0} (d : A) (P : A → Type 0) where
  set_all : (l : List A) (p : ℕ) (a : A) → ((k : ℕ) → P (get_or l k d)) → P a → (k : ℕ) → P (get_or (set l p a) k d)
  set_all l p a all one k = by_eq k p (λ e. subst (λ m. P (get_or (set l p a) m d)) (sym e) here) (λ e. subst P (sym (get_or-set_other l p k a d e)) (all k))
    where
      past : length l ≤ p → length (set l p a) ≤ p
      past h = omega (arith, length-set l p a)

      here : P (get_or (set l p a) p d)
      here = by_lt p (length l) (λ h. subst P (sym (get_or-set_same l p a d h)) one)
          (λ h. subst P (get_or-eq_default l d h ∙ sym (get_or-eq_default (set l p a) d (past h))) (all p))

  stored-all : (f : ℕ → A) (n q p : ℕ) (l : List A) → ((k : ℕ) → P (get_or l k d)) → ((k : ℕ) → P (f k)) → (k : ℕ) → P (get_or (sets l p (from f n q)) k d)
  stored-all f zero q p l all each = all
  stored-all f (suc n) q p l all each = stored-all f n (suc q) (suc p) (set l p (f q)) (set_all l p (f q) all (each q)) each

module _ (job : ℕ) (s : ClosedSlots) (g : GivenSlots) where
  pub stored-sized : Sized s → Sized (put_closed job s g)
  stored-sized z = record {
    alternatives = length-set s.alternatives job g.count ∙ z.alternatives;
    atoms = length-sets s.atoms (job * 4) (first_of 4 g.counts) ∙ z.atoms;
    measure = length-sets s.measure (job * 16) (first_of 16 g.measure) ∙ z.measure;
    operator = length-sets s.operator (job * 16) (first_of 16 g.operator) ∙ z.operator;
    key = length-sets s.key (job * 16) (keys_from g.coefficients g.locals g.constant 16) ∙ z.key;
  }

  pub stored-fit : (measures : ℕ) → SlotsFit measures s → ((k : ℕ) → get_or g.measure k 0 < measures) → ((k : ℕ) → get_or g.operator k 0 ≤ 6) → AllIn coefficient_most g.coefficients →
      AllIn value_most g.locals → AllIn value_most g.constant → SlotsFit measures (put_closed job s g)
  stored-fit measures fit m o c l v = record {
    few = fit.few;
    measure = stored-all 0 (λ x. x < measures) (λ k. get_or g.measure k 0) 16 0 (job * 16) s.measure fit.measure m;
    operator = stored-all 0 (λ x. x ≤ 6) (λ k. get_or g.operator k 0) 16 0 (job * 16) s.operator fit.operator o;
    key = stored-all (pos 0) (Within key_most) (key_at g.coefficients g.locals g.constant) 16 0 (job * 16) s.key fit.key
        (λ k. in-add (local-within g.coefficients g.locals (k * 4) c l) (v k));
  }

  -- ---- the other jobs
  pub stored-counts : (j : ℕ) → (j ≡ job → ⊥) → get_or (put_closed job s g).alternatives j 0 ≡ get_or s.alternatives j 0
  stored-counts j d = get_or-set_other s.alternatives job j g.count 0 d

  module _ (small : job < 32) (sized : Sized s) where
    pub stored_same : (j i : ℕ) → (j ≡ job → ⊥) → i < 4 →
        alternative_at (put_closed job s g).atoms (put_closed job s g).measure (put_closed job s g).operator (put_closed job s g).key (j * 4 + i) ≡ alternative_at s.atoms s.measure s.operator s.key (j * 4 + i)
    stored_same j i d h = alternative-kept job small s sized g j d i h

    pub stored-conditions : (j : ℕ) → (j ≡ job → ⊥) → condition_in (put_closed job s g) j ≡ condition_in s j
    stored-conditions j d = others-kept job small s sized g j d

-- ---- the rank words of a job's four nodes
module _ (job : ℕ) (l : List ℕ) (f : ℕ → ℕ) where
  pub words_long : length (sets l (job * 4) (from f 4 0)) ≡ length l
  words_long = length-sets l (job * 4) (from f 4 0)

  pub words-here : job < 32 → length l ≡ 128 → (i : ℕ) → i < 4 → get_or (sets l (job * 4) (from f 4 0)) (job * 4 + i) 0 ≡ f i
  words-here small size i h = stored-in 0 f 4 l (job * 4) 0 i h (omega (arith, size)) ∙ ap f first
    where
      first : 0 + i ≡ i
      first = omega arith

  pub words-elsewhere : (j i : ℕ) → (j ≡ job → ⊥) → i < 4 → get_or (sets l (job * 4) (from f 4 0)) (j * 4 + i) 0 ≡ get_or l (j * 4 + i) 0
  words-elsewhere j i d h = by_lt j job
      (λ p. stored-before 0 (from f 4 0) l (job * 4) (j * 4 + i) (omega arith))
      (λ p. stored-after 0 (from f 4 0) l (job * 4) (j * 4 + i) (rw (from-many f 4 0) (omega (arith, d))))

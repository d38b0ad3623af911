-- The job of an entry with the least ticket: it is chosen going along the jobs, and whoever was passed has no less.
use Rattle.std.specs.Prelude.{◌≡◌, refl, Option, Some, None, MatchOption, List, eqb, ltb, get_or, if◌then◌else◌}
use Rattle.std.proofs.Common.{sym, ap, ◌∙◌, arith, add-one, eq-eqb, ne_eqb, lt-ltb, le-ltb}
use Prim.Native.Nat.{ℕ, zero, suc, ◌+◌, ◌<◌, ◌≤◌}
use Rattle.rules.specs.Laws.Cases.{by_eq, by_lt}

-- the job k, or the best of those before it
abbrev pub chosen : List ℕ → List ℕ → ℕ → Option ℕ → ℕ → Option ℕ
chosen entry ticket of None k = if eqb (get_or entry k 0) of then Some k else None
chosen entry ticket of (Some best) k =
    if eqb (get_or entry k 0) of then (if ltb (get_or ticket k 0) (get_or ticket best 0) then Some k else Some best) else Some best

-- of the first n jobs those whose entry says `of`: the oldest, the first of them at a tie
unfoldable pub oldest_of : List ℕ → List ℕ → ℕ → ℕ → Option ℕ
oldest_of entry ticket of zero = None
oldest_of entry ticket of (suc n) = chosen entry ticket of (oldest_of entry ticket of n) n

pub oldest-none : (entry ticket : List ℕ) (of : ℕ) → None ≡ oldest_of entry ticket of 0
unfolding oldest_of
oldest-none entry ticket of = refl

pub oldest-more : (entry ticket : List ℕ) (of : ℕ) {best next : Option ℕ} (k : ℕ) →
    best ≡ oldest_of entry ticket of k → next ≡ chosen entry ticket of best k → next ≡ oldest_of entry ticket of (k + 1)
unfolding oldest_of
oldest-more entry ticket of k e d = rw (add-one k) (d ∙ ap (λ (b : Option ℕ). chosen entry ticket of b k) e)

pub oldest-end : (entry ticket : List ℕ) (of : ℕ) {best : Option ℕ} (k : ℕ) → best ≡ oldest_of entry ticket of k → k ≤ 32 → 32 ≤ k →
    best ≡ oldest_of entry ticket of 32
oldest-end entry ticket of k e h g = e ∙ ap (oldest_of entry ticket of) (omega arith)

-- ---- one choice, as the code makes it
module _ (entry ticket : List ℕ) (of k : ℕ) where
  pub chosen-not : (best : Option ℕ) → (get_or entry k 0 ≡ of → ⊥) → best ≡ chosen entry ticket of best k
  chosen-not None n = rw (ne_eqb (get_or entry k 0) of n) refl
  chosen-not (Some best) n = rw (ne_eqb (get_or entry k 0) of n) refl

  pub chosen-first : get_or entry k 0 ≡ of → Some k ≡ chosen entry ticket of None k
  chosen-first e = rw (eq-eqb (get_or entry k 0) of e) refl

  module _ (best : ℕ) (e : get_or entry k 0 ≡ of) where
    pub chosen-older : get_or ticket k 0 < get_or ticket best 0 → Some k ≡ chosen entry ticket of (Some best) k
    chosen-older g = rw (eq-eqb (get_or entry k 0) of e, lt-ltb (get_or ticket k 0) (get_or ticket best 0) g) refl

    pub chosen-kept : get_or ticket best 0 ≤ get_or ticket k 0 → Some best ≡ chosen entry ticket of (Some best) k
    chosen-kept g = rw (eq-eqb (get_or entry k 0) of e, le-ltb (get_or ticket k 0) (get_or ticket best 0) g) refl

-- ---- what the choice is worth: it is one of the first n jobs and of the entry, and none of those that are has a lesser ticket
pub record OldestAt (entry ticket : List ℕ) (of n r : ℕ) : Type 0 where
  pub below : r < n
  pub here : get_or entry r 0 ≡ of
  pub least : (j : ℕ) → j < n → get_or entry j 0 ≡ of → get_or ticket r 0 ≤ get_or ticket j 0

abbrev pub Oldest : List ℕ → List ℕ → ℕ → ℕ → Option ℕ → Type 0
Oldest entry ticket of n r = MatchOption r ((j : ℕ) → j < n → get_or entry j 0 ≡ of → ⊥) (OldestAt entry ticket of n)

module _ (entry ticket : List ℕ) (of n : ℕ) where
  take : get_or entry n 0 ≡ of → ((j : ℕ) → j < n → get_or entry j 0 ≡ of → get_or ticket n 0 ≤ get_or ticket j 0) →
      OldestAt entry ticket of (suc n) n
  take e f = record { below = omega arith; here = e; least = λ j g i. by_eq j n (λ d. rw d (omega arith)) (λ d. f j (omega arith) i) }

  keep : (best : ℕ) → OldestAt entry ticket of n best → (get_or entry n 0 ≡ of → get_or ticket best 0 ≤ get_or ticket n 0) →
      OldestAt entry ticket of (suc n) best
  keep best q f = record {
    below = omega (arith, q.below);
    here = q.here;
    least = λ j h e. by_eq j n (λ d. rw d (f (sym (ap (λ (x : ℕ). get_or entry x 0) d) ∙ e))) (λ d. q.least j (omega arith) e);
  }

  step : (best : Option ℕ) → Oldest entry ticket of n best → Oldest entry ticket of (suc n) (chosen entry ticket of best n)
  step None q =
      by_eq (get_or entry n 0) of (λ e. rw (sym (chosen-first entry ticket of n e)) (take e (λ j h i. absurd (q j h i))))
      (λ d. rw (sym (chosen-not entry ticket of n None d))
      (λ j h e. by_eq j n (λ c. d (sym (ap (λ (x : ℕ). get_or entry x 0) c) ∙ e)) (λ c. q j (omega arith) e)))
  step (Some best) q =
      by_eq (get_or entry n 0) of
      (λ e.
      by_lt (get_or ticket n 0) (get_or ticket best 0)
      (λ g. rw (sym (chosen-older entry ticket of n best e g)) (take e (λ j h i. omega (arith, q.least j h i))))
      (λ g. rw (sym (chosen-kept entry ticket of n best e g)) (keep best q (λ p. g))))
      (λ d. rw (sym (chosen-not entry ticket of n (Some best) d)) (keep best q (λ e. absurd (d e))))

module _ (entry ticket : List ℕ) (of : ℕ) where
  pub oldest-is : (n : ℕ) → Oldest entry ticket of n (oldest_of entry ticket of n)
  unfolding oldest_of
  oldest-is zero = λ j p e. absurd (omega arith)
  oldest-is (suc n) = step entry ticket of n (oldest_of entry ticket of n) (oldest-is n)

  -- what was chosen among the first jobs is one of them
  pub oldest-below : {best : Option ℕ} (n : ℕ) → best ≡ oldest_of entry ticket of n → (k : ℕ) → best ≡ Some k → k < n
  oldest-below n e k d = (rw (sym e ∙ d) at (oldest-is n)).below

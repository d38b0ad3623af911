-- The first place of the first n where a node stands, or n where it stands nowhere: one number, whatever the search looked at.
use Rattle.std.specs.Prelude.{◌≡◌, refl, Option, Some, None, MatchOption, List, ℕ, ◌+◌, ◌<◌, ◌≤◌, get_or, length, take}
use Rattle.std.specs.List.{AllWithin, HoldsAt}
use Rattle.std.proofs.Common.{sym, ap, ◌∙◌, arith, get_or-take, length-take-le}
use Rattle.rules.specs.Laws.Cases.{by_eq, by_lt}
use Rattle.nodes.specs.Counts.{count, count-find}

-- x is at none of the first i places
unfoldable pub NotAmong : List ℕ → ℕ → ℕ → Type 0
NotAmong l i x = (j : ℕ) → j < i → get_or l j 0 ≡ x → ⊥

pub record FirstPlace (l : List ℕ) (n x r : ℕ) : Type 0 where
  pub most : r ≤ n
  pub before : NotAmong l r x
  pub here : r < n → get_or l r 0 ≡ x

module _ (l : List ℕ) (n x i : ℕ) where
  pub nowhere-none : NotAmong l 0 x
  unfolding NotAmong
  nowhere-none j h = absurd (omega arith)

  pub nowhere-more : NotAmong l i x → (get_or l i 0 ≡ x → ⊥) → NotAmong l (i + 1) x
  unfolding NotAmong
  nowhere-more q d j h = by_eq j i (λ e. rw e d) (λ e. q j (omega arith))

  pub place_found : NotAmong l i x → i < n → get_or l i 0 ≡ x → FirstPlace l n x i
  place_found q h e = record { most = omega arith; before = q; here = λ p. e }

  pub place_none : NotAmong l i x → i ≤ n → n ≤ i → FirstPlace l n x n
  unfolding NotAmong
  place_none q h g = record { most = omega arith; before = λ j p. q j (omega arith); here = λ p. absurd (omega arith) }

-- the first place of all that are lent, where there is one
abbrev pub FirstOf : List ℕ → ℕ → Option ℕ → Type 0
FirstOf l x r = MatchOption r (FirstPlace l (length l) x (length l)) (λ i. (i < length l) × FirstPlace l (length l) x i)

-- as `position` says it
pub place-first : (l : List ℕ) (x : ℕ) (r : Option ℕ) →
    MatchOption r (AllWithin (λ y. y ≡ x → ⊥) l 0 (length l))
    (λ i. (i < length l) × HoldsAt (λ y. y ≡ x) l i × AllWithin (λ y. y ≡ x → ⊥) l 0 i) →
    FirstOf l x r
unfolding NotAmong
place-first l x None f = record { most = omega arith; before = λ j h. f j 0 (omega arith) h; here = λ p. absurd (omega arith) }
place-first l x (Some i) f = (f.0, record { most = omega (arith, f.0); before = λ j h. f.2 j 0 (omega arith) h; here = λ p. f.1 0 })

-- the first of the first n places, by the first of all that were lent
pub place-among : (l : List ℕ) (n x r : ℕ) → n ≤ length l → FirstPlace (take n l) (length (take n l)) x r → FirstPlace l n x r
unfolding NotAmong
place-among l n x r h f =
    let long : length (take n l) ≡ n = length-take-le n l h in
    record {
      most = omega (arith, f.most);
      before = λ j p. λ e. f.before j p (get_or-take n l j 0 (omega (arith, f.most)) ∙ e);
      here = λ p. sym (get_or-take n l r 0 p) ∙ f.here (omega arith);
    }

-- n is told exactly where the node is not among them
pub none-counted : (l : List ℕ) (n x r : ℕ) → FirstPlace l n x r → n ≤ r → 0 < count l n x → ⊥
unfolding NotAmong
none-counted l n x r f h c = let s : (j : ℕ) × (j < n) × (get_or l j 0 ≡ x) = count-find l n x c in f.before s.0 (omega (arith, s.1)) s.2

-- two numbers that the contract allows are the same
pub place-unique : (l : List ℕ) (n x r s : ℕ) → FirstPlace l n x r → FirstPlace l n x s → r ≡ s
unfolding NotAmong
place-unique l n x r s f g =
    by_lt r s (λ h. absurd (g.before r h (f.here (omega (arith, g.most)))))
    (λ h. by_lt s r (λ k. absurd (f.before s k (g.here (omega (arith, f.most))))) (λ k. omega arith))

-- and so are two answers
pub answer-unique : (l : List ℕ) (x : ℕ) (r s : Option ℕ) → FirstOf l x r → FirstOf l x s → r ≡ s
answer-unique l x None None f g = refl
answer-unique l x None (Some j) f g = absurd (omega (arith, g.0, place-unique l (length l) x (length l) j f g.1))
answer-unique l x (Some i) None f g = absurd (omega (arith, f.0, place-unique l (length l) x i (length l) f.1 g))
answer-unique l x (Some i) (Some j) f g = ap Some (place-unique l (length l) x i j f.1 g.1)

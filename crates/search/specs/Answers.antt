-- What the walk over the leads' nodes finds and counts is what the rules' search does: `law-found` and `law-count`, node by node.
use Rattle.std.specs.Prelude.{◌≡◌, Bool, ℤ}
use Rattle.std.proofs.Math.Path.{refl, sym}
use Rattle.std.proofs.Common.{ap, ◌∙◌}
use mathlib.Core.List.{List, [], ◌∷◌, map}
use Rattle.std.proofs.Math.Option.{Option, none, some}
use Prim.Native.Nat.{ℕ, suc, ◌/◌}
use Rattle.rules.specs.Base.{first}
use Rattle.rules.specs.Search.{Waiter, Pair, found, evaluated}
use Rattle.rules.specs.Laws.In.{In, by_bool}
use Rattle.rules.specs.Laws.InRankOrder.{up_to}
use Rattle.rules.specs.Demands.Calls.{is_true}
use Rattle.walk.specs.declared.Walk.{Walk}
use Rattle.walk.specs.declared.Walk.TheVariants as walk
use Rattle.walk.specs.Walks.{as_walk, walked}
use Rattle.search.specs.declared.Answer.{Answer}
use Rattle.search.specs.declared.Answer.TheVariants.{Calls, Nobody}

-- the job that is called, if one is, and the evaluated count
abbrev pub answer_for : Option Pair → ℕ → Answer
answer_for (some p) count = Calls p.waiter.job count
answer_for none count = Nobody count

-- document 01's search, over the values of the measures and the jobs that wait
abbrev pub search_answer : List ℤ → List Waiter → Answer
search_answer now ws = answer_for (found now ws) (evaluated now ws)

-- the same of a walk: a node is of job node / 4
abbrev pub as_answer : Walk → Answer
as_answer (walk.Found node count) = Calls (node / 4) count
as_answer (walk.Nobody count) = Nobody count

module _ (pair_at : ℕ → Pair) (now : List ℤ) (test : ℕ → Bool) where
  abbrev Tested : List ℕ → Type 0
  Tested l = (x : ℕ) → In x l → test x ≡ is_true now (pair_at x)

  pub same-walk : (l : List ℕ) → Tested l → ((x : ℕ) → (pair_at x).waiter.job ≡ x / 4) →
      as_answer (walked test l) ≡ answer_for (first (is_true now) (map pair_at l)) (up_to (is_true now) (map pair_at l))
  unfolding walked
  same-walk l e j = go l (up_to test l) (up_to (is_true now) (map pair_at l)) e (same_count l e)
    where
      same_count : (l : List ℕ) → Tested l → up_to test l ≡ up_to (is_true now) (map pair_at l)
      same_count [] e = refl
      same_count (x ∷ l) e = by_bool (test x)
          (λ t. rw (t, sym (e x (mathlib.Core.Logic.inl refl)) ∙ t) refl)
          (λ t. rw (t, sym (e x (mathlib.Core.Logic.inl refl)) ∙ t) (ap suc (same_count l (λ y h. e y (mathlib.Core.Logic.inr h)))))

      go : (l : List ℕ) (n m : ℕ) → Tested l → n ≡ m → as_answer (as_walk (first test l) n) ≡ answer_for (first (is_true now) (map pair_at l)) m
      go [] n m e c = ap Nobody c
      go (x ∷ l) n m e c = by_bool (test x)
          (λ t. rw (t, sym (e x (mathlib.Core.Logic.inl refl)) ∙ t) (λ i. Calls (sym (j x) i) (c i)))
          (λ t. rw (t, sym (e x (mathlib.Core.Logic.inl refl)) ∙ t) (go l n m (λ y h. e y (mathlib.Core.Logic.inr h)) c))

-- ---- the answers of `Answer::from`
pub as-found : {w : Walk} {node count : ℕ} → w ≡ walk.Found node count → Calls (node / 4) count ≡ as_answer w
as-found e = ap as_answer (sym e)

pub as-nobody : {w : Walk} {count : ℕ} → w ≡ walk.Nobody count → Nobody count ≡ as_answer w
as-nobody e = ap as_answer (sym e)

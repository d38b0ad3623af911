-- Lists without doubles: what is picked out of one, or put together of several that share nothing, has none.
use Rattle.std.specs.Prelude.{◌≡◌, refl, Bool, List, [], ◌∷◌, ◌++◌, ℕ, zero, suc}
use Rattle.std.proofs.Common.{sym, ◌∙◌, subst, inl, inr, arith}
use Rattle.rules.specs.Base.{those, gather}
use Rattle.rules.specs.Laws.In.{In, by_bool, in-those, in-gather, in-append}
use Rattle.rules.specs.Laws.Rearranged.{Once}
use Rattle.condition.specs.From.{from}
use Rattle.search.specs.Contents.{from_in}

pub once-those : {A : Type 0} (p : A → Bool) (l : List A) → Once l → Once (those p l)
once-those p [] o = tt
once-those p (a ∷ l) o = by_bool (p a) (λ t. rw t (λ h. o.0 (in-those p l h).0, once-those p l o.1)) (λ t. rw t (once-those p l o.1))

pub once-append : {A : Type 0} (l m : List A) → Once l → Once m → ((x : A) → In x l → In x m → ⊥) → Once (l ++ m)
once-append [] m o u d = u
once-append (a ∷ l) m o u d = (λ h. elim (in-append a l m h) [ inl p ↦ o.0 p | inr p ↦ d a (inl refl) p ], once-append l m o.1 u (λ x p q. d x (inr p) q))

pub once-gather : {A B : Type 0} (f : A → List B) (of_one : B → A) (l : List A) → Once l → ((a : A) → Once (f a)) → ((a : A) (b : B) → In b (f a) → of_one b ≡ a) → Once (gather f l)
once-gather f of_one [] o u d = tt
once-gather f of_one (a ∷ l) o u d = once-append (f a) (gather f l) (u a) (once-gather f of_one l o.1 u d)
    (λ x p q. let r = in-gather f x l q in o.0 (subst (λ c. In c l) (sym (d r.0 x r.2) ∙ d a x p) r.1))

pub numbers-once : (k a : ℕ) → Once (from (λ j. j) k a)
numbers-once zero a = tt
numbers-once (suc k) a = (λ h. let r = from_in (λ j. j) k (suc a) a h in omega (arith, r.1, r.3), numbers-once k (suc a))

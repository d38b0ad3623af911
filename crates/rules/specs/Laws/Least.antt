-- The least pair of a list is in it, is there if any pair is, and no other is before it.
use Rattle.std.specs.Prelude.{◌≡◌, refl, Bool, true, false, List, [], ◌∷◌, if◌then◌else◌}
use Rattle.std.proofs.Common.{sym, ap, ◌∙◌, inl, inr}
use Rattle.std.proofs.Math.Option.{Option, none, some}
use Rattle.rules.specs.Rank.{before}
use Rattle.rules.specs.Search.{Pair, least, lesser}
use Rattle.rules.specs.Laws.In.{In, by_bool, true-not-false, none-some, some_same}
use Rattle.rules.specs.Laws.Order.{before-asym, before-between, before-irrefl}

lesser-in : (x p : Pair) (l : List Pair) (o : Option Pair) → ((q : Pair) → o ≡ some q → In q l) → lesser x o ≡ some p → In p (x ∷ l)
lesser-in x p l none ih e = inl (cc)
lesser-in x p l (some q) ih e = go (before q.rank x.rank) e
  where
    go : (t : Bool) → (if t then some q else some x) ≡ some p → In p (x ∷ l)
    go true f = inr (ih p f)
    go false f = inl (cc)

pub least-in : (l : List Pair) (p : Pair) → least l ≡ some p → In p l
least-in [] p e = none-some e
least-in (x ∷ l) p e = lesser-in x p l (least l) (least-in l) e

lesser-some : (x : Pair) (o : Option Pair) → lesser x o ≡ none → ⊥
lesser-some x none e = none-some (sym e)
lesser-some x (some q) e = by_bool (before q.rank x.rank) (λ t. none-some (sym (rw t at e))) (λ t. none-some (sym (rw t at e)))

pub least-none : (l : List Pair) (p : Pair) → In p l → least l ≡ none → ⊥
least-none [] p h e = h
least-none (x ∷ l) p h e = lesser-some x (least l) e

-- q is not before p
abbrev pub Not : Pair → Pair → Type 0
Not q p = before q.rank p.rank ≡ false

pub not-cast : (q : Pair) {a b : Pair} → some a ≡ some b → Not q a → Not q b
not-cast q e h = ap (λ (z : Pair). before q.rank z.rank) (sym (some_same e)) ∙ h

pub not_through : (q r x : Pair) → Not q r → Not r x → Not q x
not_through q r x h g = by_bool (before q.rank x.rank) (λ u. elim (before-between q.rank r.rank x.rank u) [ inl v ↦ true-not-false v h | inr v ↦ true-not-false v g ]) (λ e. e)

pub not-self : (q p : Pair) → q ≡ p → Not q p
not-self q p e = ap (λ (z : Pair). before z.rank p.rank) e ∙ before-irrefl p.rank

lesser-least : (x p q : Pair) (l : List Pair) (o : Option Pair) → ((r : Pair) → o ≡ some r → In q l → Not q r) → (o ≡ none → In q l → ⊥) → lesser x o ≡ some p → In q (x ∷ l) → Not q p
lesser-least x p q l none ih no_one e (inl h) = not-cast q e (not-self q x h)
lesser-least x p q l none ih no_one e (inr h) = absurd (no_one refl h)
lesser-least x p q l (some r) ih no_one e h = by_bool (before r.rank x.rank) (λ t. not-cast q (rw t at e) (won t h)) (λ f. not-cast q (rw f at e) (lost f h))
  where
    won : before r.rank x.rank ≡ true → In q (x ∷ l) → Not q r
    won t (inl d) = ap (λ (z : Pair). before z.rank r.rank) d ∙ before-asym r.rank x.rank t
    won t (inr i) = ih r refl i

    lost : Not r x → In q (x ∷ l) → Not q x
    lost f (inl d) = not-self q x d
    lost f (inr i) = not_through q r x (ih r refl i) f

pub least-least : (l : List Pair) (p q : Pair) → least l ≡ some p → In q l → Not q p
least-least [] p q e h = absurd h
least-least (x ∷ l) p q e h = lesser-least x p q l (least l) (λ r d i. least-least l r q d i) (λ n i. least-none l q i n) e h

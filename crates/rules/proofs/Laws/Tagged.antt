-- A true alternative's tag holds, since the tag is one of its atoms; and of one alternative the older ticket ranks before.
use Rattle.std.specs.Prelude.{◌≡◌, refl, true, List, [], ◌∷◌, ◌++◌, ℕ, ◌<◌, ℤ, pos}
use Rattle.std.proofs.Common.{◌∙◌, lt-ltb}
use Rattle.std.proofs.Math.Option.{Option, none, some}
use Rattle.rules.specs.Base.{first}
use Rattle.rules.specs.Condition.{Atom, atom_true, alternative_true}
use Rattle.rules.specs.Tag.{tag, is_equality, is_threshold, tag_holds}
use Rattle.rules.specs.Rank.{before, place, rank}
use Rattle.rules.specs.Laws.In.{all_in, first-in}
use Rattle.rules.specs.Laws.Order.{before_same}

pub true-tag : (now : List ℤ) (a : List Atom) → alternative_true now a ≡ true → tag_holds now a ≡ true
true-tag now a e = go (first is_equality a) (first is_threshold a) refl refl
  where
    go : (o u : Option Atom) → first is_equality a ≡ o → first is_threshold a ≡ u → tag_holds now a ≡ true
    go (some x) u p q = rw p (all_in (atom_true now) a x e (first-in is_equality a x p))
    go none (some x) p q = rw (p, q) (all_in (atom_true now) a x e (first-in is_threshold a x q))
    go none none p q = rw (p, q)

before-after : (p l m : List ℤ) → before (p ++ l) (p ++ m) ≡ before l m
before-after [] l m = refl
before-after (x ∷ p) l m = before_same x (p ++ l) (p ++ m) ∙ before-after p l m

pub older : (a : List Atom) (t u i : ℕ) → t < u → before (rank a t i) (rank a u i) ≡ true
older a t u i h = before-after (place (tag a)) (pos t ∷ pos i ∷ []) (pos u ∷ pos i ∷ []) ∙ rw (lt-ltb t u h)

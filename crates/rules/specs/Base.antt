-- Lists by a test: what the library has only for decisions.
use Rattle.std.specs.Prelude.{Bool, true, false, if◌then◌else◌, ◌&&◌, List, [], ◌∷◌, ◌++◌, eqb, ℤ, pos, negsuc}
use Rattle.std.proofs.Math.Option.{Option, none, some}

module _ {A : Type 0} where
  -- those that pass the test, in their order
  abbrev pub those : (A → Bool) → List A → List A
  those p [] = []
  those p (a ∷ l) = if p a then a ∷ those p l else those p l

  abbrev pub first : (A → Bool) → List A → Option A
  first p [] = none
  first p (a ∷ l) = if p a then some a else first p l

  abbrev pub all : (A → Bool) → List A → Bool
  all p [] = true
  all p (a ∷ l) = p a && all p l

  abbrev pub any : (A → Bool) → List A → Bool
  any p [] = false
  any p (a ∷ l) = if p a then true else any p l

  -- two lists of one length, alike place by place
  abbrev pub each : (A → A → Bool) → List A → List A → Bool
  each same [] [] = true
  each same [] (b ∷ m) = false
  each same (a ∷ l) [] = false
  each same (a ∷ l) (b ∷ m) = same a b && each same l m

abbrev pub gather : {A B : Type 0} → (A → List B) → List A → List B
gather f [] = []
gather f (a ∷ l) = f a ++ gather f l

abbrev pub eq_z : ℤ → ℤ → Bool
eq_z (pos a) (pos b) = eqb a b
eq_z (pos a) (negsuc b) = false
eq_z (negsuc a) (pos b) = false
eq_z (negsuc a) (negsuc b) = eqb a b

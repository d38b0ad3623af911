-- Rows of numbers read one after the other are the numbers of all rows: reading n times k of them is reading n * k.
use Rattle.std.specs.Prelude.{◌≡◌, refl, List, [], ◌∷◌, ◌++◌, ℕ, zero, suc, ◌+◌, ◌*◌}
use Rattle.std.proofs.Common.{sym, ap, ◌∙◌, zero-add, suc-add, zero-mul, suc-mul, add_comm}
use Rattle.rules.specs.Base.{gather}
use Rattle.rules.specs.Number.{Read, read, refused, Reader, pure, after, times}

abbrev pub flat : {A : Type 0} → List (List A) → List A
flat = gather (λ l. l)

-- what was read, changed by a function
abbrev pub with : {A B : Type 0} → (A → B) → Read A → Read B
with f (read a rest) = read (f a) rest
with f (refused k) = refused k

module _ {A : Type 0} (p : Reader A) where
  -- k of them and then m more
  times-add : (k m : ℕ) (bytes : List ℕ) → times (k + m) p bytes ≡ after (times k p bytes) (λ a rest. with (λ b. a ++ b) (times m p rest))
  times-add zero m bytes = rw (zero-add m) (go (times m p bytes))
    where
      go : (x : Read (List A)) → x ≡ with (λ b. [] ++ b) x
      go (read a rest) = refl
      go (refused n) = refl
  times-add (suc k) m bytes = rw (suc-add k m) (first (times-add k m) (p bytes))
    where
      rest_of : (a : A) (x : Read (List A)) (y : Read (List A)) → y ≡ after x (λ b rest. with (λ c. b ++ c) (times m p rest)) →
          after y (λ l. pure (a ∷ l)) ≡ after (after x (λ l. pure (a ∷ l))) (λ b rest. with (λ c. b ++ c) (times m p rest))
      rest_of a (read b rest) y e = ap (λ z. after z (λ l. pure (a ∷ l))) e ∙ go (times m p rest)
        where
          go : (z : Read (List A)) → after (with (λ c. b ++ c) z) (λ l. pure (a ∷ l)) ≡ with (λ c. (a ∷ b) ++ c) z
          go (read c more) = refl
          go (refused n) = refl
      rest_of a (refused n) y e = ap (λ z. after z (λ l. pure (a ∷ l))) e

      first : ((rest : List ℕ) → times (k + m) p rest ≡ after (times k p rest) (λ a left. with (λ b. a ++ b) (times m p left))) → (x : Read A) → after x (λ a rest. after (times (k + m) p rest) (λ l. pure (a ∷ l))) ≡ after (after x (λ a rest. after (times k p rest) (λ l. pure (a ∷ l)))) (λ a rest. with (λ b. a ++ b) (times m p rest))
      first ih (read a rest) = rest_of a (times k p rest) (times (k + m) p rest) (ih rest)
      first ih (refused n) = refl

  pub times-flat : (n k : ℕ) (bytes : List ℕ) → with flat (times n (times k p) bytes) ≡ times (n * k) p bytes
  times-flat zero k bytes = rw (zero-mul k)
  times-flat (suc n) k bytes = row (times-flat n k) (times k p bytes) ∙ sym (times-add k (n * k) bytes) ∙ ap (λ m. times m p bytes) (add_comm k (n * k) ∙ sym (suc-mul n k))
    where
      rows : (a : List A) (x : Read (List (List A))) (y : Read (List A)) → with flat x ≡ y → with flat (after x (λ l. pure (a ∷ l))) ≡ with (λ b. a ++ b) y
      rows a (read l rest) y e = ap (with (λ b. a ++ b)) e
      rows a (refused m) y e = ap (with (λ b. a ++ b)) e

      row : ((rest : List ℕ) → with flat (times n (times k p) rest) ≡ times (n * k) p rest) → (x : Read (List A)) → with flat (after x (λ a rest. after (times n (times k p) rest) (λ l. pure (a ∷ l)))) ≡ after x (λ a rest. with (λ b. a ++ b) (times (n * k) p rest))
      row ih (read a rest) = rows a (times n (times k p) rest) (times (n * k) p rest) (ih rest)
      row ih (refused m) = refl

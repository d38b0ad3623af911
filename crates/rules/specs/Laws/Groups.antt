-- The bytes of a number, and the number that bytes are read as, group by group: each is the other's inverse, since a number has one way to be written in
-- groups without a last group of 0.
use Rattle.std.specs.Prelude.{◌≡◌, refl, List, ◌++◌, ℕ, zero, suc, ◌*◌, ◌<◌}
use Rattle.std.proofs.Common.{sym}
use Rattle.rules.specs.Number.{Read, read, refused, after}
use Rattle.rules.specs.Writer.{groups_of}
use Rattle.rules.specs.Laws.Readers.{read-refused}

abbrev pub Byte : ℕ → Type 0
Byte b = b < 256

-- ---- what has room in k groups, of which the last may have four bits
abbrev pub room : ℕ → ℕ
room zero = 0
room (suc zero) = 16
room (suc (suc k)) = 128 * room (suc k)

-- ---- read, it is written as it stood
pub record Stood (k place n : ℕ) (bytes rest : List ℕ) : Type 0 where
  pub is : bytes ≡ groups_of k n ++ rest
  pub fits : n < room k
  pub some : 1 < place → 0 < n

pub after_read : {A B : Type 0} (x : Read A) (f : A → List ℕ → Read B) {b : B} {rest : List ℕ} → after x f ≡ read b rest → (a : A) × (mid : List ℕ) × (x ≡ read a mid) × (f a mid ≡ read b rest)
after_read (read a mid) f e = (a, mid, refl, e)
after_read (refused n) f e = read-refused (sym e)

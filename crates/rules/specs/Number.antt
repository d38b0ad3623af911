-- "Bytes": numbers, and the fields that a record is read by. A field's bytes are judged first (refusal 1 or 2), then its
-- range (3 or 4), and reading stops at the first field that can't be taken.
use Rattle.std.specs.Prelude.{Bool, true, false, ◌&&◌, ◌||◌, List, [], ◌∷◌, ℕ, zero, suc, ◌+◌, ◌*◌, ◌-◌, ◌/◌, ◌%◌, leb, ltb, eqb, ℤ, pos, negsuc, nat_abs, if◌then◌else◌}

-- what was read and the bytes after it, or a refusal
pub data Read (A : Type 0) : Type 0 where
  read : A → List ℕ → Read A
  refused : ℕ → Read A

abbrev pub Reader : Type 0 → Type 0
Reader A = List ℕ → Read A

module _ {A : Type 0} where
  abbrev pub pure : A → Reader A
  pure a bytes = read a bytes

  -- a, if the test passes; else the refusal
  abbrev pub only : Bool → ℕ → A → Reader A
  only true n a bytes = read a bytes
  only false n a bytes = refused n

abbrev pub after : {A B : Type 0} → Read A → (A → Reader B) → Read B
after (read a rest) f = f a rest
after (refused n) f = refused n

-- one field, then what follows it: what `do` stands for below
infixl 10 ◌>>=◌
abbrev pub ◌>>=◌ : {A B : Type 0} → Reader A → (A → Reader B) → Reader B
◌>>=◌ p f bytes = after (p bytes) f

abbrev pub times : {A : Type 0} → ℕ → Reader A → Reader (List A)
times zero p = pure []
times (suc n) p = do
  a ← p
  l ← times n p
  pure (a ∷ l)

-- refusal 2: a fifth byte of 16 or more, and a last group of 0 after others
abbrev pub bad_group : ℕ → ℕ → Bool
bad_group place b = eqb place 5 && leb 16 b || ltb 1 place && eqb b 0

-- The number whose group at this place, counted from 1, comes next. A fifth byte below 16 has none after it, so no sixth is read.
abbrev pub groups : ℕ → Reader ℕ
groups place [] = refused 1
groups place (b ∷ rest) = elim (bad_group place b) [
  | true ↦ refused 2
  | false ↦ elim (ltb b 128) [
    | true ↦ read b rest
    | false ↦ after (groups (suc place) rest) (λ n. pure (b - 128 + 128 * n))
  ]
]

abbrev pub number : Reader ℕ
number = groups 1

-- even: half of it; odd, n = −2z − 1: z = −(n / 2) − 1
abbrev pub signed : ℕ → ℤ
signed n = if eqb (n % 2) 0 then pos (n / 2) else negsuc (n / 2)

-- from low to high; else the refusal
abbrev pub field : ℕ → ℕ → ℕ → Reader ℕ
field refusal low high = do
  n ← number
  only (leb low n && leb n high) refusal n

-- numbered from 0, this many of them
abbrev pub below : ℕ → Reader ℕ
below bound = do
  n ← number
  only (ltb n bound) 4 n

abbrev pub signed_field : ℕ → Reader ℤ
signed_field most = do
  n ← number
  only (leb (nat_abs (signed n)) most) 4 (signed n)

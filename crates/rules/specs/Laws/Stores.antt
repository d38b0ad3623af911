-- A store in the list of standings: at any place stands what was put, or what stood there.
use Rattle.std.specs.Prelude.{◌≡◌, refl, ◌⊎◌, List, ℕ, zero, suc, ◌<◌, get_or, set, length, replicate}
use Rattle.std.proofs.Common.{ap, inl, inr, arith, get_or-set_same, get_or-set_other}
use Rattle.std.proofs.Math.Decide.{ℕ_discrete, dec_lt}
use Rattle.std.proofs.Math.ListN.{get_or-eq_default}
use Rattle.std.proofs.Math.Seq.{set_out}
use Rattle.rules.specs.Room.{Standing, outside, door, inside, waiting, called}

module _ (l : List Standing) (j : ℕ) (s : Standing) where
  pub set-or : (k : ℕ) → ((k ≡ j) × (get_or (set l j s) k outside ≡ s)) ⊎ (get_or (set l j s) k outside ≡ get_or l k outside)
  set-or k = go (ℕ_discrete k j) (dec_lt j (length l))
    where
      go : Dec (k ≡ j) → Dec (j < length l) → ((k ≡ j) × (get_or (set l j s) k outside ≡ s)) ⊎ (get_or (set l j s) k outside ≡ get_or l k outside)
      go (yes e) (yes h) = inl (e, rw e (get_or-set_same l j s outside h))
      go (yes e) (no h) = inr (ap (λ (m : List Standing). get_or m k outside) (set_out l j s (omega arith)))
      go (no n) d = inr (get_or-set_other l j k s outside n)

-- who is not outside stands in the list
pub within : (l : List Standing) (k : ℕ) → (get_or l k outside ≡ outside → ⊥) → k < length l
within l k h = go (dec_lt k (length l))
  where
    go : Dec (k < length l) → k < length l
    go (yes d) = d
    go (no d) = absurd (h (get_or-eq_default l outside (omega arith)))

-- standings told apart by a number
abbrev pub kind : Standing → ℕ
kind outside = 0
kind door = 1
kind inside = 2
kind (waiting c t) = 3
kind (called c t) = 4

pub all-outside : (n k : ℕ) → get_or (replicate n outside) k outside ≡ outside
all-outside zero k = refl
all-outside (suc n) zero = refl
all-outside (suc n) (suc k) = all-outside n k

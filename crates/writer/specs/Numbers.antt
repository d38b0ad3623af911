-- A number written group by group: what was stored so far, and the groups that are left, are the whole number from its first place on.
use Rattle.std.specs.Prelude.{◌≡◌, refl, List, ℕ, zero, suc, ◌+◌, ◌/◌, ◌%◌, ◌≤◌, ◌<◌, set, length}
use Rattle.std.proofs.Common.{sym, ap, ◌∙◌, arith}
use Rattle.std.proofs.lemmas.List.Edits.{sets}
use Rattle.rules.specs.Writer.{groups_of, number_bytes}
use Rattle.rules.specs.Laws.Groups.{room}
use Rattle.rules.proofs.Laws.Groups.{of-small, of-large}

-- of number n, from place `at` on: `rest` goes on at place i, and needs at most k groups
pub record Going (out₀ out : List ℕ) (at n rest i k : ℕ) : Type 0 where
  pub left : i + k ≡ at + 5
  pub fits : rest < room k
  pub stored : sets out i (groups_of k rest) ≡ sets out₀ at (number_bytes n)
  pub end : i + length (groups_of k rest) ≡ at + length (number_bytes n)

pub going_start : (out : List ℕ) (at n : ℕ) → n < 4_294_967_296 → Going out out at n n at 5
going_start out at n h = record { left = refl; fits = h; stored = refl; end = refl }

pub going_more : (out₀ out : List ℕ) (at n rest i k : ℕ) → Going out₀ out at n rest i k → 128 ≤ rest → (b : ℕ) → b ≡ rest % 128 + 128 → (j : ℕ) → j ≡ rest / 128 → (p : ℕ) → p ≡ i + 1 → (m : ℕ) × Going out₀ (set out i b) at n j p m
going_more out₀ out at n rest i zero g h b e j d p q = absurd (omega (arith, g.fits))
going_more out₀ out at n rest i (suc zero) g h b e j d p q = absurd (omega (arith, g.fits))
going_more out₀ out at n rest i (suc (suc k)) g h b e j d p q =
    let next : p ≡ suc i = omega arith in (
      suc k,
      record {
        left = omega (arith, g.left);
        fits = omega (arith, g.fits);
        stored = (λ x. sets (set out i (e x)) (next x) (groups_of (suc k) (d x))) ∙ sym (ap (sets out i) (of-large (suc k) rest h)) ∙ g.stored;
        end = (λ x. next x + length (groups_of (suc k) (d x))) ∙ plus i (length (groups_of (suc k) (rest / 128))) ∙ sym (ap (λ l. i + length l) (of-large (suc k) rest h)) ∙ g.end;
      },
    )
  where
    plus : (m n : ℕ) → suc m + n ≡ m + suc n
    plus m n = omega arith

pub going_end : (out₀ out : List ℕ) (at n rest i k : ℕ) → Going out₀ out at n rest i k → rest < 128 → (b : ℕ) → b ≡ rest → (set out i b ≡ sets out₀ at (number_bytes n)) × (i + 1 ≡ at + length (number_bytes n))
going_end out₀ out at n rest i zero g h b e = absurd (omega (arith, g.fits))
going_end out₀ out at n rest i (suc k) g h b e = (
  ap (set out i) e ∙ sym (ap (sets out i) (of-small k rest h)) ∙ g.stored,
  sym (ap (λ l. i + length l) (of-small k rest h)) ∙ g.end,
)

pub going-place : (out₀ out : List ℕ) (at n rest i k : ℕ) → Going out₀ out at n rest i k → i < at + 5
going-place out₀ out at n rest i zero g = absurd (omega (arith, g.fits))
going-place out₀ out at n rest i (suc k) g = omega (arith, g.left)

-- The nodes of a job's first alternatives; with one alternative more there is one node more.
use Rattle.std.specs.Prelude.{◌≡◌, refl, Bool, true, false, ◌&&◌, ℕ, ◌+◌, ◌*◌, ◌/◌, ◌%◌, ◌<◌, ◌≤◌, eqb, ltb}
use Rattle.std.proofs.Common.{arith, eq-eqb, ne_eqb, eqb-true, lt-ltb, le-ltb, ltb-true}
use Rattle.rules.specs.Laws.Cases.{by_eq, by_lt}
use Rattle.rules.specs.Laws.In.{both}
use Rattle.nodes.specs.Counts.{bit}

-- node x is among the first alternatives of a job
abbrev pub mine : ℕ → ℕ → ℕ → Bool
mine job count x = eqb (x / 4) job && ltb (x % 4) count

module _ (job count x : ℕ) where
  pub mine-yes : x / 4 ≡ job → x % 4 < count → mine job count x ≡ true
  mine-yes e h = rw (eq-eqb (x / 4) job e) (lt-ltb (x % 4) count h)

  pub mine-other : (x / 4 ≡ job → ⊥) → mine job count x ≡ false
  mine-other n = rw (ne_eqb (x / 4) job n) refl

  pub mine-past : count ≤ x % 4 → mine job count x ≡ false
  mine-past h = by_eq (x / 4) job (λ e. rw (eq-eqb (x / 4) job e) (le-ltb (x % 4) count h)) mine-other

  pub mine-is : mine job count x ≡ true → (x / 4 ≡ job) × (x % 4 < count)
  mine-is e = let p = both (eqb (x / 4) job) (ltb (x % 4) count) e in (eqb-true (x / 4) job p.0, ltb-true (x % 4) count p.1)

pub mine-none : (job x : ℕ) → mine job 0 x ≡ false
mine-none job x = mine-past job 0 x (omega arith)

-- one alternative more
pub mine-more : (job i x : ℕ) (b : Bool) → i < 4 → bit (mine job (i + 1) x && b) ≡ bit (mine job i x && b) + bit (eqb x (job * 4 + i) && b)
mine-more job i x b h =
    by_eq x (job * 4 + i)
    (λ e. rw (mine-yes job (i + 1) x (omega arith) (omega arith), mine-past job i x (omega arith), eq-eqb x (job * 4 + i) e) (omega arith))
    (λ n. rw (ne_eqb x (job * 4 + i) n)
    (by_eq (x / 4) job
    (λ e. by_lt (x % 4) i
    (λ l. rw (mine-yes job (i + 1) x e (omega arith), mine-yes job i x e l) (omega arith))
    (λ l. rw (mine-past job (i + 1) x (omega arith), mine-past job i x l) (omega arith)))
    (λ o. rw (mine-other job (i + 1) x o, mine-other job i x o) (omega arith))))

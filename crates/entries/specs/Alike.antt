-- The lead whose condition is a job's, found by the identity test: identical conditions are equal, and every waiting job's lead is among the leads.
use Rattle.std.specs.Prelude.{◌≡◌, refl, Bool, true, false, ◌&&◌, List, length}
use Rattle.std.proofs.Common.{sym, ◌∙◌, arith, eq-eqb, ne_eqb, eqb-true}
use Prim.Native.Nat.{ℕ, ◌+◌, ◌-◌, ◌<◌, ◌≤◌}
use Rattle.std.proofs.Math.ListN.{get_or}
use Rattle.rules.specs.Condition.{Condition, identical}
use Rattle.rules.specs.Laws.In.{both, true-not-false}
use Rattle.rules.proofs.Laws.Identical.{identical-true, identical-same}
use Rattle.entries.specs.Entries.{Waits, is_lead, Entries, Distinct, waits-below, lead_is}
use Rattle.entries.specs.Firsts.{Nowhere, First}

-- job k leads an entry, and its condition is identical to the job's
abbrev pub lead_like : (ℕ → Condition) → List ℕ → ℕ → ℕ → Bool
lead_like condition entry job k = is_lead entry k && identical (condition k) (condition job)

module _ (condition : ℕ → Condition) (entry : List ℕ) (job k : ℕ) where
  pub like-test : {n : ℕ} {b : Bool} → n ≡ k + 1 → get_or entry k 0 ≡ n → b ≡ identical (condition k) (condition job) → b ≡ lead_like condition entry job k
  like-test {n} e d i = rw (eq-eqb (get_or entry k 0) (k + 1) (d ∙ e)) i

  pub like-not : {n : ℕ} → n ≡ k + 1 → (get_or entry k 0 ≡ n → ⊥) → false ≡ lead_like condition entry job k
  like-not {n} e d = rw (ne_eqb (get_or entry k 0) (k + 1) (λ f. d (f ∙ sym e))) refl

module _ (condition : ℕ → Condition) (entry : List ℕ) (job r : ℕ) (f : First (lead_like condition entry job) 32 r) where
  -- who is found
  pub like-lead : r < 32 → get_or entry r 0 ≡ r + 1
  like-lead h = eqb-true (get_or entry r 0) (r + 1) (both (is_lead entry r) (identical (condition r) (condition job)) (f.here h)).0

  pub like-same : r < 32 → condition r ≡ condition job
  like-same h = identical-true (condition r) (condition job) (both (is_lead entry r) (identical (condition r) (condition job)) (f.here h)).1

  -- and if nobody is, nobody waits with that condition
  pub like-nobody : (ticket : List ℕ) → Entries condition ticket entry → Distinct ticket entry → length entry ≤ 32 → 32 ≤ r → (k : ℕ) → Waits entry k → condition k ≡ condition job → ⊥
  unfolding Nowhere
  like-nobody ticket q d n h k w e = true-not-false yes (f.before l (omega (arith, waits-below entry 32 l n (q k w).waits)))
    where
      l : ℕ
      l = get_or entry k 0 - 1

      yes : lead_like condition entry job l ≡ true
      yes = rw (lead_is condition ticket entry q d k w) (rw ((q k w).same ∙ e) (identical-same (condition job)))

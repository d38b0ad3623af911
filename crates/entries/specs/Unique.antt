-- There is one index of the jobs that wait: whose condition is whose and whose ticket is less decide every lead.
use Rattle.std.specs.Prelude.{◌≡◌, List, ℕ, ◌-◌, get_or, length}
use Rattle.std.proofs.Common.{arith, ext_get_or}
use Rattle.rules.specs.Condition.{Condition}
use Rattle.rules.specs.Laws.Cases.{by_lt}
use Rattle.entries.specs.Entries.{Waits, Led, Entries, Distinct}

module _ (condition : ℕ → Condition) (ticket entry entry' : List ℕ) (d : Distinct ticket entry) (q : Entries condition ticket entry) (q' : Entries condition ticket entry')
    (to : (j : ℕ) → Waits entry j → Waits entry' j) (from : (j : ℕ) → Waits entry' j → Waits entry j) where
  one-lead : (j : ℕ) → Waits entry j → get_or entry j 0 ≡ get_or entry' j 0
  one-lead j w = omega (arith, v, d l m a.waits (from m b.waits) (omega (arith, a.oldest m (from m b.waits) b.same, b.oldest l (to l a.waits) a.same)))
    where
      v : Waits entry' j
      v = to j w

      l : ℕ
      l = get_or entry j 0 - 1

      m : ℕ
      m = get_or entry' j 0 - 1

      a : Led condition ticket entry j l
      a = q j w

      b : Led condition ticket entry' j m
      b = q' j v

  pub entries-unique : (j : ℕ) → get_or entry j 0 ≡ get_or entry' j 0
  entries-unique j = by_lt 0 (get_or entry j 0) (one-lead j) (λ n. by_lt 0 (get_or entry' j 0) (λ v. absurd (omega (arith, from j v))) (λ z. omega arith))

  pub index-unique : length entry ≡ length entry' → entry ≡ entry'
  index-unique e = ext_get_or 0 entry entry' e (λ j h. entries-unique j)

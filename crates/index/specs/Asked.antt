-- What `put_nodes` and `cut_nodes` ask is so where the leads' nodes are filed: a job that leads has its nodes there, and for one that does not
-- there is room.
use Rattle.std.specs.Prelude.{◌≡◌, refl, Bool, true, false, List, ℕ, ◌<◌, ◌≤◌, eqb, get_or, length, if◌then◌else◌}
use Rattle.std.proofs.Common.{eq-eqb, ne_eqb}
use Rattle.rules.specs.Laws.Cases.{by_eq}
use Rattle.rules.specs.Laws.In.{true-not-false}
use Rattle.condition.specs.Closing.{ClosedSlots}
use Rattle.homes.specs.Moves.{times_in_home}
use Rattle.index.specs.Filed.{home_in, alternatives_in}
use Rattle.index.specs.Mine.{mine}
use Rattle.index.specs.Leads.{FiledOf, leads-room, leads-most, leads-held}

abbrev pub SmallMeasures : ClosedSlots → Type 0
SmallMeasures s = (k : ℕ) → get_or s.measure k 0 < 16

-- as the calls ask it
abbrev pub PutAsks : ClosedSlots → List ℕ → List ℕ → ℕ → Type 0
PutAsks s l n job = (length l ≡ 4352) × ((length n ≡ 34) × ((job < 32) × (SmallMeasures s × ((h : ℕ) → h < 34 → get_or n h 0 ≤ 124))))

abbrev pub CutAsks : ClosedSlots → List ℕ → List ℕ → ℕ → Type 0
CutAsks s l n job =
    (length l ≡ 4352) × ((length n ≡ 34) × ((job < 32) × (SmallMeasures s × (((h : ℕ) → h < 34 → get_or n h 0 ≤ 128) × ((x : ℕ) → mine job (alternatives_in s job) x ≡ true → 0 < times_in_home l n (home_in s x) x)))))

module _ (rank : ℕ → ℕ) (s : ClosedSlots) (lead : ℕ → Bool) (l n : List ℕ) (f : FiledOf rank s lead l n) (few : (j : ℕ) → lead j ≡ true → j < 32) (small : SmallMeasures s) (job : ℕ) where
  pub put-asks : job < 32 → lead job ≡ false → PutAsks s l n job
  put-asks below not = (f.long, (f.many, (below, (small, leads-room rank s lead l n f job not few below))))

  pub cut-asks : lead job ≡ true → CutAsks s l n job
  cut-asks leads = (f.long, (f.many, (few job leads, (small, (leads-most rank s lead l n f few, leads-held rank s lead l n f job leads small)))))

-- one lead less: the others are jobs still
pub fewer : (lead : ℕ → Bool) (old : ℕ) → ((j : ℕ) → lead j ≡ true → j < 32) → (j : ℕ) → (if eqb j old then false else lead j) ≡ true → j < 32
fewer lead old few j t = by_eq j old (λ e. true-not-false t (rw (eq-eqb j old e) refl)) (λ d. few j (rw (ne_eqb j old d) at t))

-- What a move changes: the job's own entry, and every other one alike.
use Rattle.std.specs.Prelude.{◌≡◌, List, ℕ, ◌+◌, ◌<◌, ◌≤◌, get_or, set, length}
use Rattle.std.proofs.Common.{sym, ap, ◌∙◌, arith, length-set, get_or-set_same, get_or-set_other}
use Rattle.std.proofs.Math.ListN.{get_or-eq_default}
use Rattle.rules.specs.Laws.Cases.{by_eq, by_lt}
use Rattle.entries.specs.Entries.{Waits}
use Rattle.entries.specs.Renames.{renamed, renamed-other, Renamed}

pub record Change (before after : List ℕ) (job value : ℕ) (change : ℕ → ℕ) : Type 0 where
  pub here : get_or after job 0 ≡ value
  pub others : (j : ℕ) → (j ≡ job → ⊥) → get_or after j 0 ≡ change (get_or before j 0)
  pub long : length after ≡ length before

-- a job that did not wait: whoever waited does, and nobody else, if the change keeps 0 and nothing else at 0
module _ (before after : List ℕ) (job value : ℕ) (change : ℕ → ℕ) (s : Change before after job value change) where
  pub stay : get_or before job 0 ≡ 0 → ((x : ℕ) → 0 < x → 0 < change x) → (j : ℕ) → Waits before j → Waits after j
  stay out keeps j w = by_eq j job (λ e. absurd (omega (arith, out, ap (λ (x : ℕ). get_or before x 0) e))) (λ n. omega (arith, s.others j n, keeps (get_or before j 0) w))

  pub new : ((x : ℕ) → 0 < change x → 0 < x) → (j : ℕ) → Waits after j → (j ≡ job → ⊥) → Waits before j
  new from j w n = from (get_or before j 0) (omega (arith, s.others j n))

-- x is what the code stores, and old and new what it renames by
pub change-one : {x : ℕ} (before : List ℕ) (job value : ℕ) → x ≡ value → job < length before → Change before (set before job x) job value (λ y. y)
change-one {x} before job value e h = record { here = get_or-set_same before job x 0 h ∙ e; others = λ j n. get_or-set_other before job j x 0 n; long = length-set before job x }

-- nobody past the end is renamed either, for 0 is not
pub renamed-at : {old new : ℕ} (before after : List ℕ) (lead next : ℕ) → old ≡ lead + 1 → new ≡ next → length before ≤ 32 → Renamed before after old new 32 →
    (j : ℕ) → get_or after j 0 ≡ renamed (lead + 1) next (get_or before j 0)
renamed-at {old} {new} before after lead next e d short q j =
    by_lt j 32 (λ h. q.passed j h ∙ both) (λ h. q.rest j h ∙ renamed-other (lead + 1) next (get_or before j 0) (λ z. absurd (omega (arith, none h))))
  where
    both : renamed old new (get_or before j 0) ≡ renamed (lead + 1) next (get_or before j 0)
    both = λ i. renamed (e i) (d i) (get_or before j 0)

    past : 32 ≤ j → length before ≤ j
    past h = omega arith

    none : 32 ≤ j → get_or before j 0 ≡ 0
    none h = get_or-eq_default before 0 (past h)

-- every entry of a lead, and then the job's
pub change-all : {old new : ℕ} (before after : List ℕ) (lead next job : ℕ) → old ≡ lead + 1 → new ≡ next → length before ≤ 32 → job < length before → Renamed before after old new 32 →
    Change before (set after job new) job next (renamed (lead + 1) next)
change-all {old} {new} before after lead next job e d short h q = record {
  here = get_or-set_same after job new 0 (omega (arith, q.long)) ∙ d;
  others = λ j n. get_or-set_other after job j new 0 n ∙ renamed-at before after lead next e d short q j;
  long = length-set after job new ∙ q.long;
}

-- the job's, and then every entry it led
pub change-left : {old new : ℕ} (before after : List ℕ) (next job : ℕ) → old ≡ job + 1 → new ≡ next → length before ≤ 32 → job < length before → Renamed (set before job 0) after old new 32 →
    Change before after job 0 (renamed (job + 1) next)
change-left {old} {new} before after next job e d short h q = record {
  here = at job ∙ ap (renamed (job + 1) next) (get_or-set_same before job 0 0 h) ∙ sym (renamed-other (job + 1) next 0 (omega arith));
  others = λ j n. at j ∙ ap (renamed (job + 1) next) (get_or-set_other before job j 0 0 n);
  long = q.long ∙ length-set before job 0;
}
  where
    at : (j : ℕ) → get_or after j 0 ≡ renamed (job + 1) next (get_or (set before job 0) j 0)
    at = renamed-at (set before job 0) after job next e d (omega (arith, length-set before job 0)) q

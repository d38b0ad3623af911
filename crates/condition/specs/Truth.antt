-- Where the loops over atoms and alternatives begin: nothing is passed yet, so what is left is the whole.
use Rattle.std.specs.Prelude.{◌≡◌, List, ℕ, ◌*◌, min, ℤ, get_or}
use Rattle.std.proofs.Common.{ap, ◌∙◌}
use Rattle.rules.specs.Base.{all, any}
use Rattle.rules.specs.Condition.{atom_true, alternative_true, condition_true}
use Rattle.condition.specs.Along.{all_left, any_left, all_start, any-start}
use Rattle.condition.specs.From.{from}
use Rattle.condition.specs.Closed.{atom_at, alternative_at, condition_at}

module _ (now : List ℤ) (measure operator : List ℕ) (key : List ℤ) (atoms : List ℕ) where
  pub alternative-start : {count : ℕ} (node : ℕ) → count ≡ min (get_or atoms node 0) 4 →
      all_left (atom_true now) (atom_at measure operator key) count 0 (node * 4) ≡ alternative_true now (alternative_at atoms measure operator key node)
  alternative-start {count} node e = all_start (atom_true now) (atom_at measure operator key) count (node * 4) ∙ ap (λ n. all (atom_true now) (from (atom_at measure operator key) n (node * 4))) e

  pub condition-start : (alternatives : List ℕ) {count : ℕ} (job : ℕ) → count ≡ min (get_or alternatives job 0) 4 →
      any_left (alternative_true now) (alternative_at atoms measure operator key) count 0 (job * 4) ≡ condition_true now (condition_at alternatives atoms measure operator key job)
  condition-start alternatives {count} job e = any-start (alternative_true now) (alternative_at atoms measure operator key) count (job * 4) ∙ ap (λ n. any (alternative_true now) (from (alternative_at atoms measure operator key) n (job * 4))) e

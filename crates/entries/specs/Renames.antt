-- Every entry that says one number says another afterwards, and the others are as they were: place by place, from the first on.
use Rattle.std.specs.Prelude.{◌≡◌, refl, List, ℕ, ◌+◌, ◌<◌, ◌≤◌, eqb, get_or, set, length, if◌then◌else◌}
use Rattle.std.proofs.Common.{ap, ◌∙◌, arith, length-set, get_or-set_same, get_or-set_other, eq-eqb, ne_eqb}
use Rattle.rules.specs.Laws.Cases.{by_eq}

abbrev pub renamed : ℕ → ℕ → ℕ → ℕ
renamed old new x = if eqb x old then new else x

pub renamed-same : (old new x : ℕ) → x ≡ old → new ≡ renamed old new x
renamed-same old new x e = rw (eq-eqb x old e) refl

pub renamed-other : (old new x : ℕ) → (x ≡ old → ⊥) → x ≡ renamed old new x
renamed-other old new x n = rw (ne_eqb x old n) refl

-- so far in the first i places
pub record Renamed (before after : List ℕ) (old new i : ℕ) : Type 0 where
  pub long : length after ≡ length before
  pub passed : (j : ℕ) → j < i → get_or after j 0 ≡ renamed old new (get_or before j 0)
  pub rest : (j : ℕ) → i ≤ j → get_or after j 0 ≡ get_or before j 0

pub renamed-none : (before : List ℕ) (old new : ℕ) → Renamed before before old new 0
renamed-none before old new = record { long = refl; passed = λ j h. absurd (omega arith); rest = λ j h. refl }

pub renamed-more : {x : ℕ} (before after : List ℕ) (old new i : ℕ) → Renamed before after old new i → i < length after → x ≡ renamed old new (get_or after i 0) →
    Renamed before (set after i x) old new (i + 1)
renamed-more {x} before after old new i q h e = record {
  long = length-set after i x ∙ q.long;
  passed = λ j p. by_eq j i (λ d. rw d (get_or-set_same after i x 0 h ∙ e ∙ ap (renamed old new) (q.rest i (omega arith)))) (λ d. get_or-set_other after i j x 0 d ∙ q.passed j (omega arith));
  rest = λ j p. get_or-set_other after i j x 0 (omega arith) ∙ q.rest j (omega arith);
}

pub renamed-all : (before after : List ℕ) (old new i : ℕ) → Renamed before after old new i → i ≤ 32 → 32 ≤ i → Renamed before after old new 32
renamed-all before after old new i q h g = rw (all h g) at q
  where
    all : i ≤ 32 → 32 ≤ i → i ≡ 32
    all h g = omega arith

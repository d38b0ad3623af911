-- The tag by its slot is the rules' tag: the first place along the slots at which the operator is = , or else one of <, ≤, > and ≥.
use Rattle.std.specs.Prelude.{◌≡◌, refl, Option, Some, None, Bool, true, ◌&&◌, List, leb, eqb, ℤ, get_or, if◌then◌else◌}
use Rattle.std.proofs.Common.{sym, ◌∙◌}
use Rattle.std.proofs.Math.Path.{ap}
use Rattle.std.proofs.Math.Bool.{and-true}
use Rattle.std.proofs.Math.Option as math
use Rattle.std.specs.Option.{option_or}
use Prim.Native.Nat.{ℕ, zero, suc, ◌+◌, ◌-◌, ◌*◌, ◌<◌, ◌≤◌, min}
use native.Mathlib.Omega.{arith}
use borrow.Author.Tests.{le-leb, lt-leb, ne_eqb}
use Rattle.rules.specs.Base.{first}
use Rattle.rules.specs.Condition.{Atom, atom_true}
use Rattle.rules.specs.Tag.{tag, or_else, is_equality, is_threshold, holds}
use Rattle.rules.specs.Laws.In.{by_bool}
use Rattle.condition.specs.From.{from}
use Rattle.condition.specs.Closed.{atom_at, alternative_at}

-- the first of so many places, from one on, that passes a test
unfoldable pub first_at : (ℕ → Bool) → ℕ → ℕ → Option ℕ
first_at t zero place = None
first_at t (suc n) place = if t place then Some place else first_at t n (suc place)

-- the operator in a slot is from low to high
abbrev pub between : List ℕ → ℕ → ℕ → ℕ → Bool
between operator low high slot = leb low (get_or operator slot 0) && leb (get_or operator slot 0) high

abbrev pub tag_at : List ℕ → List ℕ → ℕ → Option ℕ
tag_at atoms operator node =
    let count = min (get_or atoms node 0) 4 in
    option_or (first_at (between operator 1 1) count (node * 4)) (first_at (between operator 3 255) count (node * 4))

-- ---- as the code goes along, up to the end of the slots
module _ (operator : List ℕ) (low high : ℕ) where
  abbrev pub first_left : ℕ → ℕ → Option ℕ
  first_left end slot = first_at (between operator low high) (end - slot) slot

  pub first-start : (count first : ℕ) → first_left (first + count) first ≡ first_at (between operator low high) count first
  first-start count first = let e : first + count - first ≡ count = omega arith in ap (λ n. first_at (between operator low high) n first) e

  module _ (end slot : ℕ) where
    first_step : slot < end → first_left end slot ≡ (if between operator low high slot then Some slot else first_left end (slot + 1))
    unfolding first_at
    first_step h =
        let one : end - slot ≡ suc (end - (slot + 1)) = omega arith in
        let next : suc slot ≡ slot + 1 = omega arith in
        rw (one, next)

    pub first-low : {r : Option ℕ} → slot < end → first_left end slot ≡ r → get_or operator slot 0 < low → first_left end (slot + 1) ≡ r
    first-low h e l = rw (lt-leb low (get_or operator slot 0) l) at (sym (first_step h)) ∙ e

    pub first-high : {r : Option ℕ} → slot < end → first_left end slot ≡ r → low ≤ get_or operator slot 0 → high < get_or operator slot 0 →
        first_left end (slot + 1) ≡ r
    first-high h e l g = rw (le-leb low (get_or operator slot 0) l, lt-leb (get_or operator slot 0) high g) at (sym (first_step h)) ∙ e

    pub first_found : {r : Option ℕ} → slot < end → first_left end slot ≡ r → low ≤ get_or operator slot 0 → get_or operator slot 0 ≤ high →
        Some slot ≡ r
    first_found h e l g = rw (le-leb low (get_or operator slot 0) l, le-leb (get_or operator slot 0) high g) at (sym (first_step h)) ∙ e

    pub first_done : {r : Option ℕ} → end ≤ slot → first_left end slot ≡ r → None ≡ r
    unfolding first_at
    first_done h e = let none_left : end - slot ≡ 0 = omega arith in rw none_left at e

-- ---- the three answers of `tag_of`
module _ (atoms operator : List ℕ) (node : ℕ) {count : ℕ} (counted : count ≡ min (get_or atoms node 0) 4) where
  pub tag-equality : {slot : ℕ} → first_at (between operator 1 1) count (node * 4) ≡ Some slot → Some slot ≡ tag_at atoms operator node
  tag-equality e = rw (sym counted, e) refl

  module _ (past : first_at (between operator 1 1) count (node * 4) ≡ None) where
    pub tag-threshold : {slot : ℕ} → first_at (between operator 3 255) count (node * 4) ≡ Some slot → Some slot ≡ tag_at atoms operator node
    tag-threshold e = rw (sym counted, past, e) refl

    pub tag-nowhere : first_at (between operator 3 255) count (node * 4) ≡ None → None ≡ tag_at atoms operator node
    tag-nowhere e = rw (sym counted, past, e) refl

-- ---- and that is the rules' tag
abbrev pub tag_means : List ℕ → List ℕ → List ℤ → Option ℕ → math.Option Atom
tag_means measure operator key (Some slot) = math.some (atom_at measure operator key slot)
tag_means measure operator key None = math.none

module _ (measure operator : List ℕ) (key : List ℤ) where
  -- the first of the atoms that passes, by its slot
  first-means : (t : Atom → Bool) (test : ℕ → Bool) → ((slot : ℕ) → test slot ≡ t (atom_at measure operator key slot)) → (n p : ℕ) →
      first t (from (atom_at measure operator key) n p) ≡ tag_means measure operator key (first_at test n p)
  unfolding first_at
  first-means t test same zero p = refl
  first-means t test same (suc n) p = by_bool (test p)
      (λ b. rw (sym (same p) ∙ b, b) refl)
      (λ b. rw (sym (same p) ∙ b, b) (first-means t test same n (suc p)))

  either-means : (o other : Option ℕ) →
      tag_means measure operator key (option_or o other) ≡ or_else (tag_means measure operator key o) (tag_means measure operator key other)
  either-means (Some slot) other = refl
  either-means None other = refl

one-to-one : (x : ℕ) → (leb 1 x && leb x 1) ≡ eqb x 1
one-to-one zero = refl
one-to-one (suc zero) = refl
one-to-one (suc (suc n)) =
    rw (le-leb 1 (suc (suc n)) (omega arith), lt-leb (suc (suc n)) 1 (omega arith), ne_eqb (suc (suc n)) 1 (λ e. omega (arith, e)))

three_up : (x : ℕ) → x ≤ 255 → (leb 3 x && leb x 255) ≡ leb 3 x
three_up x h = rw (le-leb x 255 h) (and-true (leb 3 x))

module _ (atoms measure operator : List ℕ) (key : List ℤ) (bytes : (k : ℕ) → get_or operator k 0 ≤ 255) where
  pub tag-means : (node : ℕ) → tag_means measure operator key (tag_at atoms operator node) ≡ tag (alternative_at atoms measure operator key node)
  tag-means node =
      let n = min (get_or atoms node 0) 4 in
      let e = first-means measure operator key is_equality (between operator 1 1) (λ s. one-to-one (get_or operator s 0)) n (node * 4) in
      let f = first-means measure operator key is_threshold (between operator 3 255) (λ s. three_up (get_or operator s 0) (bytes s)) n (node * 4) in
      either-means measure operator key _ _ ∙ (λ i. or_else (sym e i) (sym f i))

-- ---- a tag's slot is one of the node's
first-below : (t : ℕ → Bool) (n p : ℕ) {slot : ℕ} → first_at t n p ≡ Some slot → slot < p + n
unfolding first_at
first-below t zero p {slot} e = let z : ◌≡◌ {A = ℕ} 0 1 = cc in absurd (omega arith)
first-below t (suc n) p {slot} e = by_bool (t p)
    (λ b. let q : Some p ≡ Some slot = rw b at e in let w : p ≡ slot = cc in omega arith)
    (λ b. let q : first_at t n (suc p) ≡ Some slot = rw b at e in omega (arith, first-below t n (suc p) q))

slot-below : (o other : Option ℕ) (end : ℕ) {slot : ℕ} → ((k : ℕ) → o ≡ Some k → k < end) → ((k : ℕ) → other ≡ Some k → k < end) →
    option_or o other ≡ Some slot → slot < end
slot-below (Some k) other end {slot} f g e = f slot e
slot-below None other end {slot} f g e = g slot e

module _ (atoms operator : List ℕ) (node : ℕ) {r : Option ℕ} (is : r ≡ tag_at atoms operator node) where
  pub tag-slot : {slot : ℕ} → r ≡ Some slot → node < 128 → slot < 512
  tag-slot {slot} e h =
      let n = min (get_or atoms node 0) 4 in
      omega (
        arith,
        slot-below (first_at (between operator 1 1) n (node * 4)) (first_at (between operator 3 255) n (node * 4)) (node * 4 + n)
            (λ k. first-below (between operator 1 1) n (node * 4)) (λ k. first-below (between operator 3 255) n (node * 4)) (sym is ∙ e),
      )

  -- ---- whether it holds
  pub holds_at : (now : List ℤ) (measure : List ℕ) (key : List ℤ) {b : Bool} {slot : ℕ} → r ≡ Some slot →
      b ≡ atom_true now (atom_at measure operator key slot) → b ≡ holds now (tag_means measure operator key (tag_at atoms operator node))
  holds_at now measure key e d = d ∙ ap (λ o. holds now (tag_means measure operator key o)) (sym e ∙ is)

  pub holds-nowhere : (now : List ℤ) (measure : List ℕ) (key : List ℤ) → r ≡ None →
      true ≡ holds now (tag_means measure operator key (tag_at atoms operator node))
  holds-nowhere now measure key e = ap (λ o. holds now (tag_means measure operator key o)) (sym e ∙ is)

-- What a walk over nodes finds, and how many it evaluated: the first that is true, and all up to it. What is passed was false, so the whole is what
-- is left of it, with those passed counted.
use Rattle.std.specs.Prelude.{◌≡◌, Bool, true, false, List, ℤ, get_or, length, drop, if◌then◌else◌}
use Rattle.std.proofs.Math.Path.{refl, sym, ap}
use Rattle.std.proofs.Common.{◌∙◌, drop_of_length-le, drop-cons}
use Rattle.std.proofs.Math.Option.{Option, none, some}
use Prim.Native.Nat.{ℕ, suc, ◌+◌, ◌%◌, ◌<◌, ◌≤◌}
use native.Mathlib.Omega.{arith}
use Rattle.rules.specs.Base.{first}
use Rattle.rules.specs.Condition.{alternative_true}
use Rattle.rules.specs.Laws.InRankOrder.{up_to}
use Rattle.condition.specs.Closed.{alternative_at}
use Rattle.walk.specs.declared.Walk.{Walk}
use Rattle.walk.specs.declared.Walk.TheVariants.{Found, Nobody}

-- the alternative of a node is true; a node is below 128
abbrev pub node_true : List ℤ → List ℕ → List ℕ → List ℕ → List ℤ → ℕ → Bool
node_true now atoms measure operator key node = alternative_true now (alternative_at atoms measure operator key (node % 128))

abbrev pub as_walk : Option ℕ → ℕ → Walk
as_walk (some node) count = Found node count
as_walk none count = Nobody count

unfoldable pub walked : (ℕ → Bool) → List ℕ → Walk
walked test nodes = as_walk (first test nodes) (up_to test nodes)

-- the same with so many evaluated before: a stretch of a longer walk
unfoldable pub walked_on : (ℕ → Bool) → ℕ → List ℕ → Walk
walked_on test before nodes = as_walk (first test nodes) (before + up_to test nodes)

pub none_before : (test : ℕ → Bool) (nodes : List ℕ) → walked_on test 0 nodes ≡ walked test nodes
unfolding walked_on walked
none_before test nodes = ap (as_walk (first test nodes)) (none (up_to test nodes))
  where
    none : (k : ℕ) → 0 + k ≡ k
    none k = omega arith

-- what is left of a walk, from place i on
abbrev pub walked_from : (ℕ → Bool) → List ℕ → ℕ → Walk
walked_from test nodes i = walked_on test i (drop i nodes)

module _ (test : ℕ → Bool) (nodes : List ℕ) where
  module _ (i : ℕ) where
    rest : List ℕ
    rest = drop (suc i) nodes

    one_more : i < length nodes →
        walked_from test nodes i ≡ (let x = get_or nodes i 0 in as_walk (if test x then some x else first test rest) (i + suc (if test x then 0 else up_to test rest)))
    unfolding walked_on rest
    one_more h = rw (drop-cons nodes i 0 h) refl

    pub walk_more : {w : Walk} {t : Bool} → walked_from test nodes i ≡ w → i < length nodes → t ≡ test (get_or nodes i 0) → t ≡ false → walked_from test nodes (i + 1) ≡ w
    unfolding walked_on rest
    walk_more e h d f =
        let s : walked_from test nodes i ≡ as_walk (first test rest) (i + suc (up_to test rest)) = rw (sym d ∙ f) at (one_more h) in
        let n : i + 1 ≡ suc i = omega arith in
        let m : suc i + up_to test rest ≡ i + suc (up_to test rest) = omega arith in
        rw n (ap (as_walk (first test rest)) m ∙ sym s ∙ e)

    pub walk-found : {w : Walk} {t : Bool} → walked_from test nodes i ≡ w → i < length nodes → t ≡ test (get_or nodes i 0) → t ≡ true → Found (get_or nodes i 0) (i + 1) ≡ w
    walk-found e h d f = sym (rw (sym d ∙ f) at (one_more h)) ∙ e

    pub walk_end : {w : Walk} → walked_from test nodes i ≡ w → length nodes ≤ i → Nobody i ≡ w
    unfolding walked_on
    walk_end e h = let n : i + 0 ≡ i = omega arith in ap Nobody (sym n) ∙ (rw (drop_of_length-le nodes h) at e)

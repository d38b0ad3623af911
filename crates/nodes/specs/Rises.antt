-- A node rises from a hole while it ranks before the one at the place over it: so those under the hole never ask for less than it. `parent` leads
-- to the place over another: in a heap, half way; in a row, the one before.
use Rattle.std.proofs.Math.Path.{◌≡◌, refl}
use Rattle.std.proofs.Common.{sym, ◌∙◌, arith}
use Rattle.std.specs.Prelude.{Bool, ◌&&◌, List, ℕ, ◌+◌, ◌<◌, ◌≤◌, get_or, set, length}
use Rattle.std.proofs.Math.Bool.{true, false}
use borrow.Author.Tests.{ltb-true, ltb-false, lt-ltb, le-ltb}
use Rattle.std.proofs.Math.Dec.{ltb}
use Rattle.nodes.specs.Counts.{count, is, count-more}
use Rattle.nodes.specs.Order.{Ordered, Hole, Kids, From, hole-up, kids-up, hole-end, hole-new, kids-new}
use Rattle.nodes.specs.Holes.{rank_at, Moved, Filled, moved_more, filled}

-- x goes before what stands over place i
unfoldable pub rises : (ℕ → ℕ) → (ℕ → ℕ) → List ℕ → ℕ → ℕ → Bool
rises parent rank l i x = ltb 0 i && ltb (rank x) (rank_at rank l (parent i))

module _ (parent rank : ℕ → ℕ) (l : List ℕ) (i x : ℕ) where
  pub rises-test : {t : Bool} → 0 < i → t ≡ ltb (rank x) (rank_at rank l (parent i)) → t ≡ rises parent rank l i x
  unfolding rises
  rises-test p e = rw (lt-ltb 0 i p) e

  pub rises-none : i ≤ 0 → false ≡ rises parent rank l i x
  unfolding rises
  rises-none p = rw (le-ltb 0 i p) refl

  pub rises-yes : {t : Bool} → t ≡ rises parent rank l i x → t ≡ true → (0 < i) × (rank x < rank_at rank l (parent i))
  unfolding rises
  rises-yes d f = go (ltb 0 i) refl (sym d ∙ f)
    where
      go : (t : Bool) → ltb 0 i ≡ t → (t && ltb (rank x) (rank_at rank l (parent i))) ≡ true → (0 < i) × (rank x < rank_at rank l (parent i))
      go true e f = (ltb-true _ _ e, ltb-true _ _ f)
      go false e f = let z : ◌≡◌ {A = ℕ} 0 1 = cc in absurd (omega arith)

  pub rises-pos : {t : Bool} → t ≡ rises parent rank l i x → t ≡ true → 0 < i
  rises-pos d f = (rises-yes d f).0

  pub rises-no : {t : Bool} → t ≡ rises parent rank l i x → t ≡ false → From parent (rank_at rank l) i (rank x)
  unfolding rises From
  rises-no d f = go (ltb 0 i) refl (sym d ∙ f)
    where
      go : (t : Bool) → ltb 0 i ≡ t → (t && ltb (rank x) (rank_at rank l (parent i))) ≡ false → 0 < i → rank_at rank l (parent i) ≤ rank x
      go true e f p = ltb-false _ _ f
      go false e f p = absurd (omega (arith, ltb-false 0 i e))

-- a hole that x may rise from, among n places; and the order reached
abbrev pub Up : (ℕ → ℕ) → ℕ → ℕ → (ℕ → ℕ) → ℕ → Type 0
Up parent n x v i = Hole parent v n i × Kids parent v n i x

abbrev pub InOrder : (ℕ → ℕ) → ℕ → (ℕ → ℕ) → Type 0
InOrder parent n v = Ordered parent v n

-- the hole at k of l, among n places, filled with x
abbrev pub Risen : (ℕ → ℕ) → (ℕ → ℕ) → List ℕ → List ℕ → ℕ → ℕ → ℕ → Type 0
Risen parent rank l m n k x = Filled rank (Up parent n (rank x)) (InOrder parent n) l m n k x

module _ (parent : ℕ → ℕ) (lt : (j : ℕ) → 0 < j → parent j < j) (rank : ℕ → ℕ) (l m : List ℕ) (n k i x : ℕ) {t : Bool} (f : n ≤ length l)
    (r : Moved rank (Up parent n (rank x)) l m n k i) (e : t ≡ rises parent rank m i x) where
  pub rise-more : t ≡ true → Moved rank (Up parent n (rank x)) l (set m i (get_or m (parent i) 0)) n k (parent i)
  rise-more d =
      let y : (0 < i) × (rank x < rank_at rank m (parent i)) = rises-yes parent rank m i x e d in
      moved_more rank (Up parent n (rank x)) l m n k i (parent i) f r (omega (arith, lt i y.0, r.here)) (λ z. omega (arith, lt i y.0, z))
      (λ w a q. (hole-up parent lt (rank_at rank m) w n i a.else q.0 y.0 a.new, kids-up parent lt (rank_at rank m) w n i a.else q.0 (rank x) y.0 a.new (omega (arith, y.1))))

  pub rise-end : t ≡ false → Risen parent rank l (set m i x) n k x
  rise-end d =
      filled rank (Up parent n (rank x)) l m n k i (InOrder parent n) x f r
      (λ w a q. hole-end parent lt (rank_at rank m) w n i a.else q.0 (rank x) (rises-no parent rank m i x e d) q.1 a.new)

-- one more: x put among the first n
pub record Pushed (parent rank : ℕ → ℕ) (l m : List ℕ) (n x : ℕ) : Type 0 where
  pub long : length m ≡ length l
  pub order : Ordered parent (rank_at rank l) n → Ordered parent (rank_at rank m) (n + 1)
  pub has : (z : ℕ) → count m (n + 1) z ≡ count l n z + is x z
  pub past : (j : ℕ) → n + 1 ≤ j → get_or m j 0 ≡ get_or l j 0

pub pushed : (parent : ℕ → ℕ) (lt : (j : ℕ) → 0 < j → parent j < j) (rank : ℕ → ℕ) (l m : List ℕ) (n x : ℕ) → Risen parent rank l m (n + 1) n x → Pushed parent rank l m n x
pushed parent lt rank l m n x r =
    record {
      long = r.long;
      order = λ o. r.order (hole-new parent lt (rank_at rank l) n n o, kids-new parent lt (rank_at rank l) n n (rank x));
      has = λ z. omega (arith, r.has z, count-more l n z);
      past = r.past;
    }

-- what place k held is gone from n + 1 places: n are left
pub record Removed (parent rank : ℕ → ℕ) (l m : List ℕ) (n k : ℕ) : Type 0 where
  pub long : length m ≡ length l
  pub order : Ordered parent (rank_at rank l) (n + 1) → Ordered parent (rank_at rank m) n
  pub has : (z : ℕ) → count m n z + is (get_or l k 0) z ≡ count l (n + 1) z
  pub past : (j : ℕ) → n ≤ j → get_or m j 0 ≡ get_or l j 0

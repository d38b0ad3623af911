-- A node sinks into a hole while a child ranks before it; and a node that leaves is replaced by the last, which rises or sinks from there.
use Rattle.std.specs.Prelude.{Option, Some, None, MatchOption}
use Rattle.std.specs.Prelude.{◌≡◌, refl, Bool, true, false, List, ℕ, ◌+◌, ◌*◌, ◌<◌, ◌≤◌, get_or, set, length, ltb}
use Rattle.std.proofs.Common.{sym, ◌∙◌}
use Rattle.std.proofs.Math.Path.{ap}
use native.Mathlib.Omega.{arith}
use borrow.Author.Tests.{ltb-true, ltb-false}
use Rattle.rules.specs.Laws.Cases.{by_eq}
use Rattle.nodes.specs.Counts.{is, count-more}
use Rattle.nodes.specs.Order.{Ordered, Hole, Kids, From, hole-down, hole-end, hole-at, kids-at}
use Rattle.nodes.specs.Holes.{rank_at, Moved, Filled, moved_more, filled}
use Rattle.nodes.specs.Rises.{InOrder, Risen, Removed, rises, rises-yes, rises-no}
use Rattle.heap.specs.Places.{above, above-lt}

-- c is the child of i that ranks first, among n places
pub record LeastChild (v : ℕ → ℕ) (n i c : ℕ) : Type 0 where
  pub below : c < n
  pub child : above c ≡ i
  pub pos : 0 < c
  pub least : Kids above v n i (v c)

-- where the hole at i goes when x sinks: to the child that ranks first, or nowhere
abbrev pub Next : (ℕ → ℕ) → ℕ → ℕ → ℕ → Option ℕ → Type 0
Next v n i x r = MatchOption r (Kids above v n i x) (λ c. LeastChild v n i c × (v c ≤ x))

module _ (v : ℕ → ℕ) (n i : ℕ) where
  two-kids : (x : ℕ) → x ≤ v (2 * i + 1) → (2 * i + 2 < n → x ≤ v (2 * i + 2)) → Kids above v n i x
  unfolding Kids
  two-kids x f g j a b e = by_eq j (2 * i + 1) (λ z. omega (arith, ap v z)) (λ z. let w : j ≡ 2 * i + 2 = omega arith in omega (arith, ap v w, g (omega arith)))

  pub only_child : 2 * i + 1 < n → n ≤ 2 * i + 2 → LeastChild v n i (2 * i + 1)
  only_child p q = record { below = p; child = omega arith; pos = omega arith; least = two-kids _ (omega arith) (λ h. absurd (omega arith)) }

  pub right_child : {t : Bool} → 2 * i + 2 < n → t ≡ ltb (v (2 * i + 2)) (v (2 * i + 1)) → t ≡ true → LeastChild v n i (2 * i + 2)
  right_child p e f =
      let h : v (2 * i + 2) < v (2 * i + 1) = ltb-true _ _ (sym e ∙ f) in
      record { below = p; child = omega arith; pos = omega arith; least = two-kids _ (omega arith) (λ g. omega arith) }

  pub left-child : {t : Bool} → 2 * i + 2 < n → t ≡ ltb (v (2 * i + 2)) (v (2 * i + 1)) → t ≡ false → LeastChild v n i (2 * i + 1)
  left-child p e f =
      let h : v (2 * i + 1) ≤ v (2 * i + 2) = ltb-false _ _ (sym e ∙ f) in
      record { below = omega arith; child = omega arith; pos = omega arith; least = two-kids _ (omega arith) (λ g. h) }

  pub next-none : (x : ℕ) → n ≤ 2 * i + 1 → Next v n i x None
  unfolding Kids
  next-none x h j a b d = absurd (omega arith)

  pub next-go : (x c : ℕ) {t : Bool} → LeastChild v n i c → t ≡ ltb (v c) x → t ≡ true → Next v n i x (Some c)
  next-go x c k e f = (k, omega (arith, ltb-true (v c) x (sym e ∙ f)))

  pub next-stop : (x c : ℕ) {t : Bool} → LeastChild v n i c → t ≡ ltb (v c) x → t ≡ false → Next v n i x None
  unfolding Kids
  next-stop x c k e f j a b d = omega (arith, ltb-false (v c) x (sym e ∙ f), k.least j a b d)

-- a hole that x may sink from
abbrev pub Down : ℕ → ℕ → (ℕ → ℕ) → ℕ → Type 0
Down n x v i = Hole above v n i × From above v i x

abbrev pub Sunk : (ℕ → ℕ) → List ℕ → List ℕ → ℕ → ℕ → ℕ → Type 0
Sunk rank l m n k x = Filled rank (Down n (rank x)) (InOrder above n) l m n k x

module _ (rank : ℕ → ℕ) (l m : List ℕ) (n k i x : ℕ) (f : n ≤ length l) (r : Moved rank (Down n (rank x)) l m n k i) where
  pub sink-more : {c : ℕ} → LeastChild (rank_at rank m) n i c × (rank_at rank m c ≤ rank x) →
      Moved rank (Down n (rank x)) l (set m i (get_or m c 0)) n k c
  unfolding From
  sink-more {c} g =
      moved_more rank (Down n (rank x)) l m n k i c f r g.0.below (λ z. omega (arith, g.0.child, g.0.pos, z))
      (λ w a q. (hole-down above above-lt (rank_at rank m) w n i a.else q.0 c g.0.pos g.0.below g.0.child g.0.least a.new, λ p. omega (arith, ap w g.0.child, a.new, g.1)))

  pub sink-end : Kids above (rank_at rank m) n i (rank x) → Sunk rank l (set m i x) n k x
  sink-end stop =
      filled rank (Down n (rank x)) l m n k i (InOrder above n) x f r
      (λ w a q. hole-end above above-lt (rank_at rank m) w n i a.else q.0 (rank x) q.1 stop a.new)

pub removed-last : (rank : ℕ → ℕ) (l : List ℕ) (n k : ℕ) → n ≡ k → Removed above rank l l n k
unfolding Ordered
removed-last rank l n k e = record {
  long = refl;
  order = λ o j p q. o j p (omega arith);
  has = λ z. omega (arith, count-more l n z, ap (λ (u : ℕ). is (get_or l u 0) z) e);
  past = λ j p. refl;
}

-- the last of n + 1 places, x, fills the hole at k
module _ (rank : ℕ → ℕ) (l m : List ℕ) (n k : ℕ) where
  pub removed-rise : {t : Bool} → k < n → t ≡ rises above rank l k (get_or l n 0) → t ≡ true → Risen above rank l m n k (get_or l n 0) → Removed above rank l m n k
  removed-rise p e f r =
      let y : (0 < k) × (rank (get_or l n 0) < rank_at rank l (above k)) = rises-yes above rank l k (get_or l n 0) e f in
      record {
        long = r.long;
        order = λ o. r.order (hole-at above above-lt (rank_at rank l) (n + 1) k n (omega arith) o, kids-at above above-lt (rank_at rank l) (n + 1) k n _ (omega arith) o y.0 (omega arith) (omega (arith, y.1)));
        has = λ z. omega (arith, r.has z, count-more l n z);
        past = λ j q. r.past j (omega arith);
      }

  pub removed-sink : {t : Bool} → k < n → t ≡ rises above rank l k (get_or l n 0) → t ≡ false → Sunk rank l m n k (get_or l n 0) → Removed above rank l m n k
  removed-sink p e f r =
      record {
        long = r.long;
        order = λ o. r.order (hole-at above above-lt (rank_at rank l) (n + 1) k n (omega arith) o, rises-no above rank l k (get_or l n 0) e f);
        has = λ z. omega (arith, r.has z, count-more l n z);
        past = λ j q. r.past j (omega arith);
      }

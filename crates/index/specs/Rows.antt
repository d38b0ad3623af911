-- Of two rows in order with the same nodes, no two of one rank, the last ranks last in each, and so is the same: place by place they are one row.
use Rattle.std.specs.Prelude.{◌≡◌, List, length, drop}
use Rattle.std.proofs.Common.{sym, ◌∙◌, arith, length-drop, length-take-le, ext_get_or}
use Rattle.std.proofs.Math.Path.{ap}
use Prim.Native.Nat.{ℕ, zero, suc, ◌*◌, ◌<◌, ◌≤◌}
use Rattle.std.proofs.Math.ListN.{get_or}
use Rattle.rules.specs.Laws.Cases.{by_eq, by_lt}
use Rattle.nodes.specs.Counts.{is, count, count-find, count_at}
use Rattle.nodes.specs.Order.{Ordered}
use Rattle.nodes.specs.Holes.{rank_at}
use Rattle.rows.specs.Places.{previous, earlier-first}
use Rattle.homes.specs.Orders.{over-row}
use Rattle.homes.specs.Regions.{region}
use Rattle.homes.specs.Moves.{times_in_home, HomeInOrder, Cleared}

-- a node that stands in a row ranks at most as the last
last-most : (rank : ℕ → ℕ) (l : List ℕ) (n z : ℕ) → Ordered previous (rank_at rank l) (suc n) → 0 < count l (suc n) z → rank z ≤ rank (get_or l n 0)
last-most rank l n z o h =
    let s : (j : ℕ) × (j < suc n) × (get_or l j 0 ≡ z) = count-find l (suc n) z h in
    omega (arith, earlier-first (rank_at rank l) (suc n) s.0 n o (omega (arith, s.1)) (omega arith), ap rank s.2)

shorter : (v : ℕ → ℕ) (n : ℕ) → Ordered previous v (suc n) → Ordered previous v n
unfolding Ordered
shorter v n o j a b = o j a (omega arith)

module _ (rank : ℕ → ℕ) (l m : List ℕ) where
  row_same : (n : ℕ) → Ordered previous (rank_at rank l) n → Ordered previous (rank_at rank m) n → ((z : ℕ) → count l n z ≡ count m n z) →
      ((y z : ℕ) → 0 < count l n y → 0 < count l n z → rank y ≡ rank z → y ≡ z) → (j : ℕ) → j < n → get_or l j 0 ≡ get_or m j 0
  unfolding count
  row_same zero o p e apart j h = absurd (omega arith)
  row_same (suc n) o p e apart j h =
      let x = get_or l n 0 in
      let y = get_or m n 0 in
      let in-l : 0 < count l (suc n) x = count_at l (suc n) n (omega arith) in
      let in-m : 0 < count m (suc n) y = count_at m (suc n) n (omega arith) in
      let last : x ≡ y = apart x y in-l (omega (arith, e y, in-m)) (omega (arith, last-most rank m n x p (omega (arith, e x, in-l)), last-most rank l n y o (omega (arith, e y, in-m)))) in
      by_eq j n (λ d. rw d last)
      (λ d. row_same n (shorter (rank_at rank l) n o) (shorter (rank_at rank m) n p) (λ z. omega (arith, e z, ap (λ (u : ℕ). is u z) last))
      (λ a b f g. apart a b (omega arith) (omega arith)) j (omega arith))

-- ---- the rows of two sets of homes
module _ (rank : ℕ → ℕ) (places places' lengths lengths' : List ℕ) (long : length places ≡ 4352) (long' : length places' ≡ 4352) (h : ℕ) (row : 32 ≤ h) (one : h < 34) where
  size : (l : List ℕ) → length l ≡ 4352 → length (region l h) ≡ 128
  size l e = length-take-le 128 (drop (h * 128) l) (omega (arith, length-drop (h * 128) l))

  pub rows_same : get_or lengths h 0 ≡ get_or lengths' h 0 → HomeInOrder rank places lengths h → HomeInOrder rank places' lengths' h → Cleared places lengths h → Cleared places' lengths' h →
      ((z : ℕ) → times_in_home places lengths h z ≡ times_in_home places' lengths' h z) →
      ((y z : ℕ) → 0 < times_in_home places lengths h y → 0 < times_in_home places lengths h z → rank y ≡ rank z → y ≡ z) → region places h ≡ region places' h
  rows_same n o o' c c' e apart =
      ext_get_or 0 (region places h) (region places' h) (size places long ∙ sym (size places' long'))
      (λ j p. by_lt j (get_or lengths h 0)
      (row_same rank (region places h) (region places' h) (get_or lengths h 0) (rw (over-row h row) at o) (rw (over-row h row, ← n) at o') (rw (← n) at e) apart j)
      (λ q. c j q ∙ sym (c' j (omega arith))))

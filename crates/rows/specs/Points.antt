-- The point at which a row's words reach a word, as `partition_point` says it.
use Rattle.std.specs.Prelude.{◌≡◌, true, false, List, ℕ, ◌<◌, ◌≤◌, get_or, ltb, length, take}
use Rattle.std.specs.List.Sorted.{IsPartitionedBy, IsPartitionPoint}
use Rattle.std.proofs.Math.Path.{ap}
use Rattle.std.proofs.Common.{◌∙◌, arith, get_or-take, length-take-le, lt-ltb, ltb-true, ltb-false}
use Rattle.std.proofs.lemmas.List.{get_or_default}
use Rattle.nodes.specs.Order.{Ordered}
use Rattle.nodes.specs.Holes.{rank_at}
use Rattle.rows.specs.Places.{previous, earlier-first}
use Rattle.rows.specs.Halves.{Reaches}

module _ (v : ℕ → ℕ) (w : ℕ) (row : List ℕ) (n : ℕ) (fits : n ≤ length row) where
  long : length (take n row) ≡ n
  long = length-take-le n row fits

  at : (j d : ℕ) → j < n → get_or (take n row) j d ≡ get_or row j 0
  at j d h = get_or-take n row j d h ∙ get_or_default row j d 0 (omega arith)

  pub words-parted : Ordered previous (rank_at v row) n → IsPartitionedBy (λ y. ltb (v y) w) (take n row)
  words-parted o i j d h p e =
      let q : j < n = omega (arith, long) in
      lt-ltb _ _ (omega (arith, ap v (at i d (omega arith)), ap v (at j d q), earlier-first (rank_at v row) n i j o h q, ltb-true _ _ e))

  pub point-reaches : (r : ℕ) → r ≤ length (take n row) →
      IsPartitionPoint (λ y. ltb (v y) w ≡ true) (λ y. ltb (v y) w ≡ false) (take n row) r → Reaches (rank_at v row) w n r
  point-reaches r most p = record {
    less = λ j h. omega (arith, ap v (at j 0 (omega (arith, long))), ltb-true _ _ (p.0 j 0 (omega arith) h));
    more = λ j h q. omega (arith, ap v (at j 0 q), ltb-false _ _ (p.1 j 0 h (omega (arith, long))));
    order = omega arith;
    most = omega (arith, long);
  }

-- Moves of a hole: each is one store, and changes neither what the others are nor any place past the first n.
use Rattle.std.specs.Prelude.{◌≡◌, refl, List, ℕ, ◌<◌, ◌≤◌, ◌+◌, get_or, set, length}
use Rattle.std.proofs.Common.{ap, ◌∙◌, arith, length-set, get_or-set_same, get_or-set_other}
use Rattle.nodes.specs.Counts.{count, is, count_set}

-- the rank of what stands at place j
abbrev pub rank_at : (ℕ → ℕ) → List ℕ → ℕ → ℕ
rank_at rank l j = rank (get_or l j 0)

-- m is l after some moves in the first n places: the hole went from k to i. Q is what is kept of the order, with the hole's place
pub record Moved (rank : ℕ → ℕ) (Q : (ℕ → ℕ) → ℕ → Type 0) (l m : List ℕ) (n k i : ℕ) : Type 0 where
  pub here : i < n
  pub long : length m ≡ length l
  pub order : Q (rank_at rank l) k → Q (rank_at rank m) i
  pub has : (z : ℕ) → count m n z + is (get_or l k 0) z ≡ count l n z + is (get_or m i 0) z
  pub past : (j : ℕ) → n ≤ j → get_or m j 0 ≡ get_or l j 0

-- the same with x in the hole: O is the order reached
pub record Filled (rank : ℕ → ℕ) (Q : (ℕ → ℕ) → ℕ → Type 0) (O : (ℕ → ℕ) → Type 0) (l m : List ℕ) (n k x : ℕ) : Type 0 where
  pub long : length m ≡ length l
  pub order : Q (rank_at rank l) k → O (rank_at rank m)
  pub has : (z : ℕ) → count m n z + is (get_or l k 0) z ≡ count l n z + is x z
  pub past : (j : ℕ) → n ≤ j → get_or m j 0 ≡ get_or l j 0

-- w is v with y at i
pub record At (v w : ℕ → ℕ) (i y : ℕ) : Type 0 where
  pub else : (j : ℕ) → (j ≡ i → ⊥) → w j ≡ v j
  pub new : w i ≡ y

pub moved_none : (rank : ℕ → ℕ) (Q : (ℕ → ℕ) → ℕ → Type 0) (l : List ℕ) (n k : ℕ) → k < n → Moved rank Q l l n k k
moved_none rank Q l n k h = record { here = h; long = refl; order = λ q. q; has = λ z. refl; past = λ j p. refl }

module _ (rank : ℕ → ℕ) (Q : (ℕ → ℕ) → ℕ → Type 0) (l m : List ℕ) (n k i : ℕ) where
  at_set : (y : ℕ) → i < length m → At (rank_at rank m) (rank_at rank (set m i y)) i (rank y)
  at_set y q = record { else = λ j d. ap rank (get_or-set_other m i j y 0 d); new = ap rank (get_or-set_same m i y 0 q) }

  pub moved_more : (c : ℕ) → n ≤ length l → Moved rank Q l m n k i → c < n → (c ≡ i → ⊥) →
      ((w : ℕ → ℕ) → At (rank_at rank m) w i (rank_at rank m c) → Q (rank_at rank m) i → Q w c) → Moved rank Q l (set m i (get_or m c 0)) n k c
  moved_more c f r p d s =
      let y = get_or m c 0 in
      let q : i < length m = omega (arith, r.here, r.long) in
      record {
        here = p;
        long = length-set m i y ∙ r.long;
        order = λ o. s (rank_at rank (set m i y)) (at_set y q) (r.order o);
        has = λ z. omega (arith, count_set m n i y z r.here q, r.has z, ap (λ (v : ℕ). is v z) (get_or-set_other m i c y 0 d));
        past = λ j h. get_or-set_other m i j y 0 (λ e. omega (arith, r.here)) ∙ r.past j h;
      }

  pub filled : (O : (ℕ → ℕ) → Type 0) (x : ℕ) → n ≤ length l → Moved rank Q l m n k i →
      ((w : ℕ → ℕ) → At (rank_at rank m) w i (rank x) → Q (rank_at rank m) i → O w) → Filled rank Q O l (set m i x) n k x
  filled O x f r s =
      let q : i < length m = omega (arith, r.here, r.long) in
      record {
        long = length-set m i x ∙ r.long;
        order = λ o. s (rank_at rank (set m i x)) (at_set x q) (r.order o);
        has = λ z. omega (arith, count_set m n i x z r.here q, r.has z);
        past = λ j h. get_or-set_other m i j x 0 (λ e. omega (arith, r.here)) ∙ r.past j h;
      }

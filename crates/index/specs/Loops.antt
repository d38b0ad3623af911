-- The loops over a job's nodes: the first i have moved, and a home has grown by no more than that.
use Rattle.std.specs.Prelude.{◌≡◌, refl, true, ◌&&◌, List, ℕ, ◌+◌, ◌*◌, ◌-◌, ◌<◌, ◌≤◌, eqb, get_or, set, length}
use Rattle.std.proofs.Common.{ap, arith, get_or-set_same, get_or-set_other}
use Rattle.rules.specs.Laws.Cases.{by_eq}
use Rattle.nodes.specs.Counts.{bit}
use Rattle.homes.specs.Moves.{times_in_home, Put, Cut}
use Rattle.condition.specs.Tags.{tag_at}
use Rattle.filing.specs.Homes.{home-at-below}
use Rattle.index.specs.Mine.{mine, mine-none, mine-past, mine-yes, mine-more}
use Rattle.index.specs.Nodes.{home_of, Added, TakenOut, one-put, one-cut, added-both, taken-both}

-- where the value at a place of a list becomes v, no place has more than before but that one
set-most : (n : List ℕ) (g v h most : ℕ) → g < length n → v ≤ most → get_or n h 0 ≤ most → get_or (set n g v) h 0 ≤ most
set-most n g v h most s a b = by_eq h g (λ e. rw e (omega (arith, get_or-set_same n g v 0 s))) (λ d. omega (arith, get_or-set_other n g h v 0 d))

module _ (rank home : ℕ → ℕ) (job : ℕ) (l n : List ℕ) where
  pub put-none : Added rank home (mine job 0) l n l n
  put-none = record {
    has = λ h x s. rw (mine-none job x) (omega arith);
    order = λ h s o. o;
    cleared = λ h s c. c;
    long = refl;
    many = refl;
  }

  pub cut-none : TakenOut rank home (mine job 0) l n l n
  cut-none = record {
    has = λ h x s. rw (mine-none job x) (omega arith);
    order = λ h s o. o;
    cleared = λ h s c. c;
    long = refl;
    many = refl;
  }

  -- node and g are what the code has for the next node and its home
  module _ (m k : List ℕ) (i : ℕ) {node g : ℕ} (few : i < 4) (next : node ≡ job * 4 + i) (at : g ≡ home (job * 4 + i)) (one : g < 34) (many : length k ≡ 34) where
    -- the next node is still there
    pub cut-held : (count : ℕ) → i < count → ((x : ℕ) → mine job count x ≡ true → 0 < times_in_home l n (home x) x) → TakenOut rank home (mine job i) l n m k → 0 < times_in_home m k g node
    cut-held count less held a =
        let x = job * 4 + i in
        let here : home x < 34 = omega (arith, at) in
        rw (next, at) (omega (arith, a.has (home x) x here, ap (λ t. bit (t && eqb (home x) (home x))) (mine-past job i x (omega arith)), held x (mine-yes job count x (omega arith) (omega arith))))

    module _ (p q : List ℕ) where
      pub put_next : Added rank home (mine job i) l n m k → Put rank m k p q g node → Added rank home (mine job (i + 1)) l n p q
      put_next a b =
          let here : home (job * 4 + i) < 34 = omega (arith, at) in
          added-both rank home (mine job i) (λ x. eqb x (job * 4 + i)) (mine job (i + 1)) (λ x t. mine-more job i x t few) l n m k p q a (one-put rank home (job * 4 + i) m k p q many here (rw (next, at) at b))

      pub cut-next : TakenOut rank home (mine job i) l n m k → Cut rank m k p q g node → TakenOut rank home (mine job (i + 1)) l n p q
      cut-next a b =
          let here : home (job * 4 + i) < 34 = omega (arith, at) in
          taken-both rank home (mine job i) (λ x. eqb x (job * 4 + i)) (mine job (i + 1)) (λ x t. mine-more job i x t few) l n m k p q a (one-cut rank home (job * 4 + i) m k p q many here (rw (next, at) at b))

      pub put-most : (most : ℕ) → ((h : ℕ) → h < 34 → get_or k h 0 ≤ most + i) → Put rank m k p q g node → (h : ℕ) → h < 34 → get_or q h 0 ≤ most + (i + 1)
      put-most most f b h s = rw b.counted (set-most k g (get_or k g 0 + 1) h (most + (i + 1)) (omega arith) (omega (arith, f g one)) (omega (arith, f h s)))

      pub cut_most : (most : ℕ) → ((h : ℕ) → h < 34 → get_or k h 0 ≤ most) → Cut rank m k p q g node → (h : ℕ) → h < 34 → get_or q h 0 ≤ most
      cut_most most f b h s = rw b.counted (set-most k g (get_or k g 0 - 1) h most (omega arith) (omega (arith, f g one)) (f h s))

-- a node's home is one of the 34
pub home-small : (atoms measure operator : List ℕ) (x : ℕ) {g : ℕ} → g ≡ home_of atoms measure operator x → ((k : ℕ) → get_or measure k 0 < 16) → g < 34
home-small atoms measure operator x e small = rw e (home-at-below measure operator (tag_at atoms operator x) small)

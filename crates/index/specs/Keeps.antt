-- Nodes that were put into their homes are among those filed, and nodes that were taken out are not; and a home has room for every job's nodes
-- but its own: it holds each node once.
use Rattle.std.specs.Prelude.{◌≡◌, refl, Bool, true, false, ◌&&◌, List, ℕ, ◌/◌, ◌<◌, ◌≤◌, eqb, get_or, if◌then◌else◌}
use Rattle.std.proofs.Common.{ap, ◌∙◌, arith, eq-eqb}
use Rattle.rules.specs.Laws.In.{by_bool}
use Rattle.nodes.specs.Counts.{bit}
use Rattle.homes.specs.Regions.{region}
use Rattle.homes.specs.Moves.{times_in_home}
use Rattle.index.specs.Filed.{Filed}
use Rattle.index.specs.Nodes.{Added, TakenOut}
use Rattle.index.specs.Across.{across, placed, at-most-all, at-most-rest}

bit-most : (b c : Bool) → bit (b && c) ≤ 1
bit-most true true = omega arith
bit-most true false = omega arith
bit-most false c = omega arith

pub bit-some : (b c : Bool) → 0 < bit (b && c) → b ≡ true
bit-some true c h = refl
bit-some false c h = absurd (omega arith)

module _ (rank home : ℕ → ℕ) (node : ℕ → Bool) (l n : List ℕ) (f : Filed rank home node l n) where
  pub filed-same : (other : ℕ → Bool) → ((x : ℕ) → other x ≡ node x) → Filed rank home other l n
  filed-same other e = record {
    has = λ h x p. rw (e x) (f.has h x p);
    order = f.order;
    cleared = f.cleared;
    long = f.long;
    many = f.many;
  }

  module _ (who : ℕ → Bool) (m k : List ℕ) where
    pub filed-added : Added rank home who l n m k → ((x : ℕ) → who x ≡ true → node x ≡ false) → Filed rank home (λ x. if who x then true else node x) m k
    filed-added a new = record {
      has = λ h x p. a.has h x p ∙ by_bool (who x)
          (λ t. rw t (omega (arith, f.has h x p, ap (λ b. bit (b && eqb (home x) h)) (new x t))))
          (λ t. rw t (omega (arith, f.has h x p)));
      order = λ h p. a.order h p (f.order h p);
      cleared = λ h p. a.cleared h p (f.cleared h p);
      long = a.long ∙ f.long;
      many = a.many ∙ f.many;
    }

    pub filed-taken : TakenOut rank home who l n m k → ((x : ℕ) → who x ≡ true → node x ≡ true) → Filed rank home (λ x. if who x then false else node x) m k
    filed-taken a there = record {
      has = λ h x p. by_bool (who x)
          (λ t. rw t (omega (arith, a.has h x p, ap (λ b. bit (b && eqb (home x) h)) t, f.has h x p, ap (λ b. bit (b && eqb (home x) h)) (there x t))))
          (λ t. rw t (omega (arith, a.has h x p, ap (λ b. bit (b && eqb (home x) h)) t, f.has h x p)));
      order = λ h p. a.order h p (f.order h p);
      cleared = λ h p. a.cleared h p (f.cleared h p);
      long = a.long ∙ f.long;
      many = a.many ∙ f.many;
    }

  -- a node that is filed is in its home
  pub filed-held : (x : ℕ) → home x < 34 → node x ≡ true → 0 < times_in_home l n (home x) x
  filed-held x p t = rw (f.has (home x) x p, t, eq-eqb (home x) (home x) refl) (omega arith)

  -- ---- how many a home has
  module _ (small : (x : ℕ) → node x ≡ true → x < 128) (h : ℕ) (p : h < 34) where
    below : (z : ℕ) → 0 < times_in_home l n h z → z < 128
    below z q = small z (bit-some (node z) (eqb (home z) h) (omega (arith, f.has h z p)))

    once : (z : ℕ) → times_in_home l n h z ≤ 1
    once z = omega (arith, f.has h z p, bit-most (node z) (eqb (home z) h))

    pub filed-placed : across (times_in_home l n h) 128 ≡ get_or n h 0
    filed-placed = placed (region l h) (get_or n h 0) below once

    pub filed-most : get_or n h 0 ≤ 128
    filed-most = at-most-all (region l h) (get_or n h 0) below once

    pub filed-room : (job : ℕ) → job < 32 → ((x : ℕ) → x / 4 ≡ job → node x ≡ false) → get_or n h 0 ≤ 124
    filed-room job few free = at-most-rest (region l h) (get_or n h 0) below once job few (λ z e. omega (arith, f.has h z p, ap (λ b. bit (b && eqb (home z) h)) (free z e)))

-- The nodes of the leads. One lead more is its nodes in their homes, one lead less is its nodes out of them; and a home has room for the nodes of
-- a job that does not lead.
use Rattle.std.specs.Prelude.{◌≡◌, refl, Bool, true, false, ◌&&◌, List, ℕ, ◌/◌, ◌%◌, ◌<◌, ◌≤◌, eqb, ltb, get_or, if◌then◌else◌}
use Rattle.std.proofs.Common.{ap, arith, eq-eqb, ne_eqb, lt-ltb}
use Rattle.rules.specs.Laws.Cases.{by_eq}
use Rattle.rules.specs.Laws.In.{by_bool, both}
use Rattle.condition.specs.Closing.{ClosedSlots}
use Rattle.condition.specs.Tags.{tag_at}
use Rattle.filing.specs.Homes.{home-at-below}
use Rattle.homes.specs.Moves.{times_in_home}
use Rattle.index.specs.Filed.{home_in, alternatives_in, Filed}
use Rattle.index.specs.Mine.{mine, mine-is, mine-other}
use Rattle.index.specs.Nodes.{NodesPut, NodesCut}
use Rattle.index.specs.Across.{across}
use Rattle.index.specs.Keeps.{filed-same, filed-added, filed-taken, filed-held, filed-placed, filed-most, filed-room}

-- node x is an alternative of one of the leads
abbrev pub node_of : ClosedSlots → (ℕ → Bool) → ℕ → Bool
node_of s lead x = lead (x / 4) && ltb (x % 4) (alternatives_in s (x / 4))

abbrev pub FiledOf : (ℕ → ℕ) → ClosedSlots → (ℕ → Bool) → List ℕ → List ℕ → Type 0
FiledOf rank s lead places lengths = Filed rank (home_in s) (node_of s lead) places lengths

module _ (rank : ℕ → ℕ) (s : ClosedSlots) (lead : ℕ → Bool) (l n : List ℕ) (f : FiledOf rank s lead l n) where
  pub leads-same : (other : ℕ → Bool) → ((j : ℕ) → other j ≡ lead j) → FiledOf rank s other l n
  leads-same other e = filed-same rank (home_in s) (node_of s lead) l n f (node_of s other) (λ x. ap (λ t. t && ltb (x % 4) (alternatives_in s (x / 4))) (e (x / 4)))

  node-below : ((j : ℕ) → lead j ≡ true → j < 32) → (x : ℕ) → node_of s lead x ≡ true → x < 128
  node-below few x t = omega (arith, few (x / 4) (both (lead (x / 4)) (ltb (x % 4) (alternatives_in s (x / 4))) t).0)

  pub leads-placed : ((j : ℕ) → lead j ≡ true → j < 32) → (h : ℕ) → h < 34 → across (times_in_home l n h) 128 ≡ get_or n h 0
  leads-placed few h p = filed-placed rank (home_in s) (node_of s lead) l n f (node-below few) h p

  pub leads-most : ((j : ℕ) → lead j ≡ true → j < 32) → (h : ℕ) → h < 34 → get_or n h 0 ≤ 128
  leads-most few h p = filed-most rank (home_in s) (node_of s lead) l n f (node-below few) h p

  module _ (job : ℕ) where
    -- the job does not lead
    module _ (not : lead job ≡ false) where
      free : (x : ℕ) → x / 4 ≡ job → node_of s lead x ≡ false
      free x e = rw (e, not) refl

      pub leads-room : ((j : ℕ) → lead j ≡ true → j < 32) → job < 32 → (h : ℕ) → h < 34 → get_or n h 0 ≤ 124
      leads-room few small h p =
          filed-room rank (home_in s) (node_of s lead) l n f (node-below few) h p job small free

      pub leads-more : (m k : List ℕ) → NodesPut rank (home_in s) job (alternatives_in s job) l n m k → FiledOf rank s (λ j. if eqb j job then true else lead j) m k
      leads-more m k a =
          filed-same rank (home_in s) (λ x. if mine job (alternatives_in s job) x then true else node_of s lead x) m k
          (filed-added rank (home_in s) (node_of s lead) l n f (mine job (alternatives_in s job)) m k a (λ x t. free x (mine-is job (alternatives_in s job) x t).0))
          (node_of s (λ j. if eqb j job then true else lead j)) same
        where
          same : (x : ℕ) → node_of s (λ j. if eqb j job then true else lead j) x ≡ (if mine job (alternatives_in s job) x then true else node_of s lead x)
          same x = by_eq (x / 4) job
              (λ e. rw (e, eq-eqb job job refl, not) (by_bool (ltb (x % 4) (alternatives_in s job)) (λ t. rw t refl) (λ t. rw t refl)))
              (λ d. rw (mine-other job (alternatives_in s job) x d, ne_eqb (x / 4) job d) refl)

    -- the job leads
    module _ (yes : lead job ≡ true) where
      there : (x : ℕ) → mine job (alternatives_in s job) x ≡ true → node_of s lead x ≡ true
      there x t = let p = mine-is job (alternatives_in s job) x t in rw (p.0, yes) (lt-ltb (x % 4) (alternatives_in s job) p.1)

      pub leads-held : ((k : ℕ) → get_or s.measure k 0 < 16) → (x : ℕ) → mine job (alternatives_in s job) x ≡ true → 0 < times_in_home l n (home_in s x) x
      leads-held small x t = filed-held rank (home_in s) (node_of s lead) l n f x (home-at-below s.measure s.operator (tag_at s.atoms s.operator x) small) (there x t)

      pub leads-less : (m k : List ℕ) → NodesCut rank (home_in s) job (alternatives_in s job) l n m k → FiledOf rank s (λ j. if eqb j job then false else lead j) m k
      leads-less m k a =
          filed-same rank (home_in s) (λ x. if mine job (alternatives_in s job) x then false else node_of s lead x) m k
          (filed-taken rank (home_in s) (node_of s lead) l n f (mine job (alternatives_in s job)) m k a there)
          (node_of s (λ j. if eqb j job then false else lead j)) same
        where
          same : (x : ℕ) → node_of s (λ j. if eqb j job then false else lead j) x ≡ (if mine job (alternatives_in s job) x then false else node_of s lead x)
          same x = by_eq (x / 4) job
              (λ e. rw (e, eq-eqb job job refl, yes) (by_bool (ltb (x % 4) (alternatives_in s job)) (λ t. rw t refl) (λ t. rw t refl)))
              (λ d. rw (mine-other job (alternatives_in s job) x d, ne_eqb (x / 4) job d) refl)

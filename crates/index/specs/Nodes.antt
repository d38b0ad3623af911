-- A job's nodes go into their homes, or out of them, one after the other: each is one move, and moves of different nodes add up.
use Rattle.std.specs.Prelude.{◌≡◌, refl, Bool, ◌&&◌, List, ℕ, ◌+◌, ◌-◌, ◌<◌, ◌≤◌, eqb, get_or, set, length}
use Rattle.std.proofs.Common.{sym, ◌∙◌, arith, length-set, get_or-set_same, get_or-set_other, eq-eqb, ne_eqb}
use Rattle.rules.specs.Laws.Cases.{by_eq}
use Rattle.condition.specs.Tags.{tag_at}
use Rattle.filing.specs.Homes.{home_at}
use Rattle.nodes.specs.Counts.{bit, is, is-self, is-not}
use Rattle.homes.specs.Regions.{region}
use Rattle.homes.specs.Moves.{times_in_home, HomeInOrder, Cleared, Put, Cut}
use Rattle.index.specs.Mine.{mine}

abbrev pub home_of : List ℕ → List ℕ → List ℕ → ℕ → ℕ
home_of atoms measure operator x = home_at measure operator (tag_at atoms operator x)

-- the nodes that `who` names were put into their homes
pub record Added (rank home : ℕ → ℕ) (who : ℕ → Bool) (places lengths places' lengths' : List ℕ) : Type 0 where
  pub has : (h x : ℕ) → h < 34 → times_in_home places' lengths' h x ≡ times_in_home places lengths h x + bit (who x && eqb (home x) h)
  pub order : (h : ℕ) → h < 34 → HomeInOrder rank places lengths h → HomeInOrder rank places' lengths' h
  pub cleared : (h : ℕ) → h < 34 → Cleared places lengths h → Cleared places' lengths' h
  pub long : length places' ≡ length places
  pub many : length lengths' ≡ length lengths

-- and were taken out of them
pub record TakenOut (rank home : ℕ → ℕ) (who : ℕ → Bool) (places lengths places' lengths' : List ℕ) : Type 0 where
  pub has : (h x : ℕ) → h < 34 → times_in_home places' lengths' h x + bit (who x && eqb (home x) h) ≡ times_in_home places lengths h x
  pub order : (h : ℕ) → h < 34 → HomeInOrder rank places lengths h → HomeInOrder rank places' lengths' h
  pub cleared : (h : ℕ) → h < 34 → Cleared places lengths h → Cleared places' lengths' h
  pub long : length places' ≡ length places
  pub many : length lengths' ≡ length lengths

abbrev pub NodesPut : (ℕ → ℕ) → (ℕ → ℕ) → ℕ → ℕ → List ℕ → List ℕ → List ℕ → List ℕ → Type 0
NodesPut rank home job count places lengths places' lengths' = Added rank home (mine job count) places lengths places' lengths'

abbrev pub NodesCut : (ℕ → ℕ) → (ℕ → ℕ) → ℕ → ℕ → List ℕ → List ℕ → List ℕ → List ℕ → Type 0
NodesCut rank home job count places lengths places' lengths' = TakenOut rank home (mine job count) places lengths places' lengths'

-- ---- one node
-- home g has v nodes, and the other homes are as they were
record Elsewhere (l n m k : List ℕ) (g v : ℕ) : Type 0 where
  counted : k ≡ set n g v
  others : (h : ℕ) → h < 34 → (h ≡ g → ⊥) → region m h ≡ region l h

module _ (rank home : ℕ → ℕ) (node : ℕ) where
  abbrev it : ℕ → Bool
  it x = eqb x node

  it-here : (x : ℕ) → is node x ≡ bit (it x && eqb (home x) (home node))
  it-here x = by_eq x node (λ e. rw e (is-self node ∙ sym (yes))) (λ n. rw (ne_eqb x node n) (is-not node x (λ e. n (sym e))))
    where
      yes : bit (it node && eqb (home node) (home node)) ≡ 1
      yes = rw (eq-eqb node node refl, eq-eqb (home node) (home node) refl) refl

  it-there : (h x : ℕ) → (h ≡ home node → ⊥) → bit (it x && eqb (home x) h) ≡ 0
  it-there h x d = by_eq x node (λ e. rw e (rw (eq-eqb node node refl, ne_eqb (home node) h (λ q. d (sym q))) refl)) (λ n. rw (ne_eqb x node n) refl)

  module _ (l n m k : List ℕ) (all : length n ≡ 34) (one : home node < 34) where
    module _ {v : ℕ} (u : Elsewhere l n m k (home node) v) where
      new : get_or k (home node) 0 ≡ v
      new = rw u.counted (get_or-set_same n (home node) v 0 (omega (arith, one, all)))

      old : (h : ℕ) → (h ≡ home node → ⊥) → get_or k h 0 ≡ get_or n h 0
      old h d = rw u.counted (get_or-set_other n (home node) h v 0 d)

      same-holds : (h x : ℕ) → h < 34 → (h ≡ home node → ⊥) → times_in_home m k h x ≡ times_in_home l n h x
      same-holds h x p d = rw (u.others h p d, old h d) refl

      same-order : (h : ℕ) → h < 34 → (h ≡ home node → ⊥) → HomeInOrder rank l n h → HomeInOrder rank m k h
      same-order h p d o = rw (u.others h p d, old h d) o

      same-cleared : (h : ℕ) → h < 34 → (h ≡ home node → ⊥) → Cleared l n h → Cleared m k h
      same-cleared h p d c = rw (u.others h p d, old h d) c

    pub one-put : Put rank l n m k (home node) node → Added rank home it l n m k
    one-put q =
        let u : Elsewhere l n m k (home node) (get_or n (home node) 0 + 1) = record { counted = q.counted; others = q.others } in
        let clear : Cleared l n (home node) → Cleared m k (home node) = λ c j b. let a : get_or n (home node) 0 + 1 ≤ j = omega (arith, new u) in q.past j a ∙ c j (omega arith) in
        record {
          has = λ h x p. by_eq h (home node) (λ e. rw e (omega (arith, q.has x, it-here x))) (λ d. omega (arith, same-holds u h x p d, it-there h x d));
          order = λ h p o. by_eq h (home node) (λ e. rw e (q.order (rw e at o))) (λ d. same-order u h p d o);
          cleared = λ h p c. by_eq h (home node) (λ e. rw e (clear (rw e at c))) (λ d. same-cleared u h p d c);
          long = q.long;
          many = rw q.counted (length-set n (home node) (get_or n (home node) 0 + 1));
        }

    pub one-cut : Cut rank l n m k (home node) node → TakenOut rank home it l n m k
    one-cut q =
        let u : Elsewhere l n m k (home node) (get_or n (home node) 0 - 1) = record { counted = q.counted; others = q.others } in
        let clear : Cleared l n (home node) → Cleared m k (home node) =
        λ c j b. by_eq j (get_or n (home node) 0 - 1) (λ e. rw e q.freed) (λ d. let a : get_or n (home node) 0 ≤ j = omega (arith, new u) in q.past j a ∙ c j a) in
        record {
          has = λ h x p. by_eq h (home node) (λ e. rw e (omega (arith, q.has x, it-here x))) (λ d. omega (arith, same-holds u h x p d, it-there h x d));
          order = λ h p o. by_eq h (home node) (λ e. rw e (q.order (rw e at o))) (λ d. same-order u h p d o);
          cleared = λ h p c. by_eq h (home node) (λ e. rw e (clear (rw e at c))) (λ d. same-cleared u h p d c);
          long = q.long;
          many = rw q.counted (length-set n (home node) (get_or n (home node) 0 - 1));
        }

-- ---- one after the other
module _ (rank home : ℕ → ℕ) (first then all : ℕ → Bool) (split : (x : ℕ) (b : Bool) → bit (all x && b) ≡ bit (first x && b) + bit (then x && b)) (l n m k p q : List ℕ) where
  pub added-both : Added rank home first l n m k → Added rank home then m k p q → Added rank home all l n p q
  added-both a b = record {
    has = λ h x s. omega (arith, a.has h x s, b.has h x s, split x (eqb (home x) h));
    order = λ h s o. b.order h s (a.order h s o);
    cleared = λ h s c. b.cleared h s (a.cleared h s c);
    long = b.long ∙ a.long;
    many = b.many ∙ a.many;
  }

  pub taken-both : TakenOut rank home first l n m k → TakenOut rank home then m k p q → TakenOut rank home all l n p q
  taken-both a b = record {
    has = λ h x s. omega (arith, a.has h x s, b.has h x s, split x (eqb (home x) h));
    order = λ h s o. b.order h s (a.order h s o);
    cleared = λ h s c. b.cleared h s (a.cleared h s c);
    long = b.long ∙ a.long;
    many = b.many ∙ a.many;
  }

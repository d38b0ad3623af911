-- What joining and parting promise is one index and one answer; and tickets stay different.
use Rattle.std.specs.Prelude.{◌≡◌, refl, true, List, ℕ, ◌+◌, get_or}
use Rattle.std.proofs.Common.{sym, ap, ◌∙◌, arith, eqb-true}
use Rattle.rules.specs.Condition.{Condition}
use Rattle.rules.specs.Laws.In.{true-not-false}
use Rattle.rules.specs.Laws.Cases.{by_eq}
use Rattle.entries.specs.Entries.{Waits, is_lead, Entries, Distinct, one_entry}
use Rattle.entries.specs.Unique.{index-unique}
use Rattle.entries.specs.Joins.{JoinedSays, JoinedTo}
use Rattle.entries.specs.Parts.{PartedSays, PartedFrom, not-job}
use Rattle.entries.specs.declared.Joined.{Joined}
use Rattle.entries.specs.declared.Joined.TheVariants.{Alone, Follows, Leads}
use Rattle.entries.specs.declared.Parted.{Parted}
use Rattle.entries.specs.declared.Parted.TheVariants.{Follower, Ends, Next}

module _ (condition : ℕ → Condition) (ticket entry : List ℕ) (job : ℕ) (d : Distinct ticket entry) where
  -- ---- joining
  module _ (apart : (k : ℕ) → Waits entry k → get_or ticket k 0 ≡ get_or ticket job 0 → ⊥) where
    pub joined-distinct : (entry' : List ℕ) (r : Joined) → JoinedTo condition ticket entry entry' job r → Distinct ticket entry'
    joined-distinct entry' r p j k w v e =
        by_eq j job (λ a. by_eq k job (λ b. a ∙ sym b) (λ n. absurd (apart k (p.only k v n) (sym e ∙ ap (λ (x : ℕ). get_or ticket x 0) a))))
        (λ m. by_eq k job (λ b. absurd (apart j (p.only j w m) (e ∙ ap (λ (x : ℕ). get_or ticket x 0) b))) (λ n. d j k (p.only j w m) (p.only k v n) e))

    pub joined-index : (entry' entry'' : List ℕ) (r s : Joined) → JoinedTo condition ticket entry entry' job r → JoinedTo condition ticket entry entry'' job s → entry' ≡ entry''
    joined-index entry' entry'' r s p o =
        index-unique condition ticket entry' entry'' (joined-distinct entry' r p) p.entries o.entries
        (λ j w. by_eq j job (λ e. rw e o.joins) (λ n. o.stays j (p.only j w n))) (λ j w. by_eq j job (λ e. rw e p.joins) (λ n. p.stays j (o.only j w n)))
        (p.long ∙ sym o.long)

  module _ (q : Entries condition ticket entry) where
    one : (k l : ℕ) → is_lead entry k ≡ true → is_lead entry l ≡ true → condition k ≡ condition job → condition l ≡ condition job → k ≡ l
    one k l a b c e =
        let x = eqb-true (get_or entry k 0) (k + 1) a in
        let y = eqb-true (get_or entry l 0) (l + 1) b in
        omega (arith, x, y, one_entry condition ticket entry q d k (omega (arith, x)) l (omega (arith, y)) (e ∙ sym c))

    waiting : (k : ℕ) → is_lead entry k ≡ true → Waits entry k
    waiting k a = omega (arith, eqb-true (get_or entry k 0) (k + 1) a)

    pub joined-answer : (r s : Joined) → JoinedSays condition ticket entry job r → JoinedSays condition ticket entry job s → r ≡ s
    joined-answer Alone Alone p o = refl
    joined-answer Alone Follows p o = absurd (p o.0 (waiting o.0 o.1) o.2)
    joined-answer Alone (Leads k) p o = absurd (p k (waiting k o.1) o.3)
    joined-answer Follows Alone p o = absurd (o p.0 (waiting p.0 p.1) p.2)
    joined-answer Follows Follows p o = refl
    joined-answer Follows (Leads k) p o = absurd (omega (arith, p.3, o.4, ap (λ (x : ℕ). get_or ticket x 0) (one p.0 k p.1 o.1 p.2 o.3)))
    joined-answer (Leads k) Alone p o = absurd (o k (waiting k p.1) p.3)
    joined-answer (Leads k) Follows p o = absurd (omega (arith, o.3, p.4, ap (λ (x : ℕ). get_or ticket x 0) (one o.0 k o.1 p.1 o.2 p.3)))
    joined-answer (Leads k) (Leads l) p o = ap Leads (one k l p.1 o.1 p.3 o.3)

  -- ---- parting
  pub parted-distinct : (entry' : List ℕ) (r : Parted) → PartedFrom condition ticket entry entry' job r → Distinct ticket entry'
  parted-distinct entry' r p j k w v e = d j k (p.only j w) (p.only k v) e

  pub parted_index : (entry' entry'' : List ℕ) (r s : Parted) → PartedFrom condition ticket entry entry' job r → PartedFrom condition ticket entry entry'' job s → entry' ≡ entry''
  parted_index entry' entry'' r s p o =
      index-unique condition ticket entry' entry'' (parted-distinct entry' r p) p.entries o.entries (λ j w. o.stays j (not-job entry' job p.parts j w) (p.only j w))
      (λ j w. p.stays j (not-job entry'' job o.parts j w) (o.only j w)) (p.long ∙ sym o.long)

  pub parted-answer : (r s : Parted) → PartedSays condition ticket entry job r → PartedSays condition ticket entry job s → r ≡ s
  parted-answer Follower Follower p o = refl
  parted-answer Follower Ends p o = true-not-false o.0 p
  parted-answer Follower (Next k) p o = true-not-false o.0 p
  parted-answer Ends Follower p o = true-not-false p.0 o
  parted-answer Ends Ends p o = refl
  parted-answer Ends (Next k) p o = absurd (p.1 k o.2 o.3 o.4)
  parted-answer (Next k) Follower p o = true-not-false p.0 o
  parted-answer (Next k) Ends p o = absurd (o.1 k p.2 p.3 p.4)
  parted-answer (Next k) (Next l) p o = ap Next (d k l p.3 o.3 (omega (arith, p.6 l o.2 o.3 o.4, o.6 k p.2 p.3 p.4)))

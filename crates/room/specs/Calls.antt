-- A search moves at most one job, from waiting to called: the one that the rules' search finds, who is in the index and leaves it.
use Rattle.std.specs.Prelude.{◌≡◌, refl, List, ℕ, ◌<◌, ◌≤◌, eqb, ℤ, get_or, set}
use Rattle.std.proofs.Common.{sym, ap, ◌∙◌, subst, arith, length-set, get_or-set_same, get_or-set_other, eq-eqb, ne_eqb, eqb-true, lt-ltb}
use Rattle.std.proofs.Math.Option.{Option, none, some}
use Rattle.rules.specs.Laws.Cases.{by_eq}
use Rattle.rules.specs.Search.{Waiter, Pair, found, evaluated}
use Rattle.rules.specs.Laws.Waiting.{pair_of}
use Rattle.rules.proofs.Demands.Calls.{found-true}
use Rattle.condition.specs.Closing.{ClosedSlots}
use Rattle.index.specs.Changes.{WordsOf, PartedIndex}
use Rattle.search.specs.Pairs.{waiter_at, waiters_in, in-waiters}
use Rattle.search.specs.Answers.{answer_for, search_answer}
use Rattle.search.specs.declared.Answer.{Answer}
use Rattle.search.specs.declared.Answer.TheVariants.{Calls, Nobody}
use Rattle.search.specs.Indexed.{Indexed}
use Rattle.room.specs.Arrays.{Arrays, arrays}
use Rattle.room.specs.Kept.{Sound}

-- the standings after it
abbrev pub called_standing : Answer → List ℕ → List ℕ
called_standing (Calls job count) standing = set standing job 4
called_standing (Nobody count) standing = standing

-- the arrays with other standings and another index
abbrev pub moved : Arrays → List ℕ → List ℕ → List ℕ → List ℕ → Arrays
moved a standing entry places lengths = arrays a.coefficients a.values standing a.ticket a.slots entry a.high a.low places lengths a.measures a.next

-- a search that answered r made these of them
pub record CallsNext (a : Arrays) (now : List ℤ) (standing entry places lengths : List ℕ) (r : Answer) : Type 0 where
  pub answer-is : r ≡ search_answer now (waiters_in a.slots a.ticket a.entry)
  pub standing-is : standing ≡ called_standing r a.standing
  pub sound : Sound (moved a standing entry places lengths)

-- ---- who is found is in the index
module _ (s : ClosedSlots) (ticket entry : List ℕ) (now : List ℤ) where
  abbrev ws : List Waiter
  ws = waiters_in s ticket entry

  pub record FoundOne (job count : ℕ) : Type 0 where
    pub small : job < 32
    pub waits : 0 < get_or entry job 0
    pub pair : Pair
    pub found-is : found now ws ≡ some pair
    pub waiter-is : pair.waiter ≡ waiter_at s ticket entry job
    pub count-is : count ≡ evaluated now ws

  calls-not-nobody : {j n m : ℕ} → Calls j n ≡ Nobody m → ⊥
  calls-not-nobody e = let z : ◌≡◌ {A = ℕ} 0 1 = cc in omega arith

  pub found-one : (job count : ℕ) → Calls job count ≡ search_answer now ws → FoundOne job count
  found-one job count e = go (found now ws) refl e
    where
      go : (f : Option Pair) → found now ws ≡ f → Calls job count ≡ answer_for f (evaluated now ws) → FoundOne job count
      go none d q = absurd (calls-not-nobody q)
      go (some p) d q =
          let w = in-waiters s ticket entry p.waiter (pair_of ws p (found-true now ws p d).0).0 in
          let j : job ≡ p.waiter.job = cc in
          let same : job ≡ w.0 = j ∙ ap (λ (v : Waiter). v.job) w.3 in
          record {
            small = omega (arith, same, w.1);
            waits = subst (λ k. 0 < get_or entry k 0) (sym same) w.2;
            pair = p;
            found-is = d;
            waiter-is = w.3 ∙ ap (waiter_at s ticket entry) (sym same);
            count-is = cc;
          }

-- what a search asks of them
abbrev pub indexed : (a : Arrays) → Sound a → Indexed a.measures a.slots.atoms a.slots.measure a.slots.operator a.slots.key a.high a.low a.places a.lengths
indexed a k = record { alternatives = a.slots.alternatives; ticket = a.ticket; entry = a.entry; fit = k.fit; index = k.index; ticket-fits = k.tickets }

-- ---- the arrays after it
module _ (a : Arrays) (k : Sound a) where
  pub calls-nobody : (now : List ℤ) {r : Answer} (count : ℕ) → r ≡ Nobody count → r ≡ search_answer now (waiters_in a.slots a.ticket a.entry) →
      CallsNext a now a.standing a.entry a.places a.lengths r
  calls-nobody now count e d = record {
    answer-is = d;
    standing-is = ap (λ (u : Answer). called_standing u a.standing) (sym e);
    sound = record {
      sizes = record { coefficients = k.sizes.coefficients; values = k.sizes.values; standing = k.sizes.standing; ticket = k.sizes.ticket; slots = k.sizes.slots; high = k.sizes.high; low = k.sizes.low };
      fit = k.fit;
      some-measure = k.some-measure;
      ranges = k.ranges;
      zeros = k.zeros;
      tickets = k.tickets;
      codes = k.codes;
      index = k.index;
      waits = k.waits;
      apart = k.apart;
      words = k.words;
    };
  }

  module _ (now : List ℤ) (job count : ℕ) (e : Calls job count ≡ search_answer now (waiters_in a.slots a.ticket a.entry)) where
    pub called-small : job < 32
    called-small = (found-one a.slots a.ticket a.entry now job count e).small

    pub called-waits : 0 < get_or a.entry job 0
    called-waits = (found-one a.slots a.ticket a.entry now job count e).waits

    pub calls-one : (entry places lengths : List ℕ) → PartedIndex a.slots a.ticket a.high a.low job a.entry entry places lengths →
        CallsNext a now (set a.standing job 4) entry places lengths (Calls job count)
    calls-one entry places lengths p = record {
      answer-is = e;
      standing-is = refl;
      sound = record {
        sizes = record { coefficients = k.sizes.coefficients; values = k.sizes.values; standing = length-set a.standing job 4 ∙ k.sizes.standing; ticket = k.sizes.ticket; slots = k.sizes.slots; high = k.sizes.high; low = k.sizes.low };
        fit = k.fit;
        some-measure = k.some-measure;
        ranges = k.ranges;
        zeros = k.zeros;
        tickets = k.tickets;
        codes = λ j. by_eq j job (λ d. rw (ap (λ x. get_or (set a.standing job 4) x 0) d ∙ here) (omega arith)) (λ d. rw (get_or-set_other a.standing job j 4 0 d) (k.codes j));
        index = p.index;
        waits = λ j. by_eq j job
            (λ d. p.waits j ∙ rw (eq-eqb j job d) (ap (λ x. eqb x 3) (sym (ap (λ x. get_or (set a.standing job 4) x 0) d ∙ here))))
            (λ d. p.waits j ∙ rw (ne_eqb j job d) (k.waits j ∙ ap (λ x. eqb x 3) (sym (get_or-set_other a.standing job j 4 0 d))));
        apart = λ i j g h. k.apart i j (held i g) (held j h);
        words = λ j h. by_eq j job
            (λ d. subst (WordsOf a.slots a.ticket a.high a.low) (sym d) (λ i l. k.index.words job i called-waits l))
            (λ d. k.words j (sym (get_or-set_other a.standing job j 4 0 d) ∙ h));
      };
    }
      where
        here : get_or (set a.standing job 4) job 0 ≡ 4
        here = get_or-set_same a.standing job 4 0 (omega (arith, called-small, k.sizes.standing))

        waited : 3 ≤ get_or a.standing job 0
        waited = omega (arith, eqb-true (get_or a.standing job 0) 3 (sym (k.waits job) ∙ lt-ltb 0 (get_or a.entry job 0) called-waits))

        held : (j : ℕ) → 3 ≤ get_or (set a.standing job 4) j 0 → 3 ≤ get_or a.standing j 0
        held j h = by_eq j job (λ d. rw d waited) (λ d. rw (get_or-set_other a.standing job j 4 0 d) at h)

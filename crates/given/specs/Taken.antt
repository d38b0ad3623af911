-- What an accepted Wait leaves in its slots, for those who call `read_wait` and then `given_true` or `close`: the condition that was read, within
-- document 01's ranges.
use Rattle.std.specs.Prelude.{◌≡◌, refl, List, ℕ, ℤ, Result, Ok, drop, length}
use Rattle.std.proofs.Common.{sym, ap, subst, ◌∙◌, arith}
use Rattle.rules.specs.Limits.{value_most, locals}
use Rattle.rules.specs.Number.{Read, read, refused}
use Rattle.rules.specs.Condition.{Given, closure}
use Rattle.fields.specs.Answers.{place_of}
use Rattle.wire.specs.WaitSlots.{WaitSlots, put_alternatives, no_slots, Body, numbers, ReadsWait}
use Rattle.condition.specs.Measures.{AllIn}
use Rattle.condition.specs.Closing.{GivenSlots, given_slots}
use Rattle.condition.specs.Closes.{given_condition}
use Rattle.given.specs.Back.{WaitFits, slots-fit, given_back, numbers-in}
use Rattle.given.specs.Reads.{BodyFits, read_fits}

-- a Wait's slots as closure takes them
abbrev pub given_in : ℕ → WaitSlots → List ℤ → GivenSlots
given_in count s l = given_slots count s.counts s.atoms.measure s.atoms.operator s.atoms.coefficients s.atoms.constant l

-- those of a Wait with these local values and this condition: 0 in the slots of parts that it does not have
abbrev pub slots_for : List ℤ → List (List Given) → GivenSlots
slots_for locals condition = given_in (length condition) (put_alternatives 0 no_slots condition) locals

module _ (measures : ℕ) (bytes : List ℕ) (at : ℕ) where
  pub record WaitTaken (count next : ℕ) (l : List ℤ) (s : WaitSlots) : Type 0 where
    pub body : Body
    pub rest : List ℕ
    pub reads : numbers measures (drop at bytes) ≡ read body rest
    pub place : next ≡ place_of bytes rest
    pub fits : BodyFits measures body
    pub slots : WaitFits measures s
    pub locals-within : AllIn value_most l
    pub hold : given_in count s l ≡ slots_for body.locals body.condition
    pub closed : closure l (given_condition (given_in count s l)) ≡ closure body.locals body.condition

  pub taken : {r : Result (ℕ × ℕ) ℕ} {count next : ℕ} {l : List ℤ} {s : WaitSlots} →
      ReadsWait bytes (numbers measures (drop at bytes)) r l s → r ≡ Ok (count, next) → WaitTaken count next l s
  taken {r} {count} {next} {l} {s} waits e = go (numbers measures (drop at bytes)) refl waits
    where
      go : (x : Read Body) → numbers measures (drop at bytes) ≡ x → ReadsWait bytes x r l s → WaitTaken count next l s
      go (read b rest) d w =
          let f = read_fits measures bytes at d in
          let answer : ◌≡◌ {A = ℕ × ℕ} (count, next) (length b.condition, place_of bytes rest) = cc in
          let counted : count ≡ length b.condition = ap (λ p. p.0) answer in
          let hold : given_in count s l ≡ slots_for b.locals b.condition = λ i. given_in (counted i) (w.2 i) (w.1 i) in
          record {
            body = b;
            rest = rest;
            reads = d;
            place = ap (λ p. p.1) answer;
            fits = f;
            slots = subst (WaitFits measures) (sym w.2) (slots-fit measures b.condition f.0);
            locals-within = subst (AllIn value_most) (sym w.1) (numbers-in locals value_most b.locals f.1);
            hold = hold;
            closed = (λ i. closure (w.1 i) (given_condition (hold i))) ∙ ap (closure b.locals) (given_back measures b.condition f.0 b.locals);
          }
      go (refused k) d w = let z : ◌≡◌ {A = ℕ} 0 1 = cc in absurd (omega arith)

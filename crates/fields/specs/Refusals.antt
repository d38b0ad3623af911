-- Document 01's numbers for refusals; 9 is the writer's own, which no stream is refused with.
use Rattle.std.specs.Prelude.{◌≡◌, refl, [], ◌∷◌, ℕ, get_or, Result, MatchResult}
use Rattle.std.proofs.Common.{sym, ap, ◌∙◌}
use Rattle.fields.specs.declared.refusal.Refusal.{Refusal}
use Rattle.fields.specs.declared.refusal.Refusal.TheVariants.{CutShort, BadNumber, Unknown, OutOfRange, WrongStanding, Occupied, NoTicket}
use Rattle.fields.specs.declared.refusal.Refusal.TheVariants.{TooLong, NoSpace}
use Rattle.fields.specs.declared.refusal.NoRefusal.{NoRefusal}

abbrev pub refusal_number : Refusal → ℕ
refusal_number CutShort = 1
refusal_number BadNumber = 2
refusal_number Unknown = 3
refusal_number OutOfRange = 4
refusal_number WrongStanding = 5
refusal_number Occupied = 6
refusal_number NoTicket = 7
refusal_number TooLong = 8
refusal_number NoSpace = 9

-- the refusal with this number, or this number of none
abbrev pub Numbers : ℕ → Result Refusal NoRefusal → Type 0
Numbers number r = MatchResult r (λ refusal. refusal_number refusal ≡ number) (λ e. (e.0 ≡ number) ×
    ((refusal : Refusal) → refusal_number refusal ≡ number → ⊥))

-- the refusal with this number, and some refusal if there is none
abbrev pub refusal_named : ℕ → Refusal
refusal_named number = get_or (CutShort ∷ CutShort ∷ BadNumber ∷ Unknown ∷ OutOfRange ∷ WrongStanding ∷ Occupied ∷ NoTicket ∷ TooLong ∷
    NoSpace ∷ []) number CutShort

pub named-number : (r : Refusal) → refusal_named (refusal_number r) ≡ r
named-number CutShort = refl
named-number BadNumber = refl
named-number Unknown = refl
named-number OutOfRange = refl
named-number WrongStanding = refl
named-number Occupied = refl
named-number NoTicket = refl
named-number TooLong = refl
named-number NoSpace = refl

-- no two refusals share a number
pub same_number : (r s : Refusal) → refusal_number r ≡ refusal_number s → r ≡ s
same_number r s e = sym (named-number r) ∙ ap refusal_named e ∙ named-number s

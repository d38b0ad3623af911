-- The sentence that a refusal is shown as, and a number of none.
use Rattle.std.specs.Prelude.{ℕ, List, ◌++◌, codes, decimal}
use Rattle.fields.specs.declared.refusal.Refusal.{Refusal}
use Rattle.fields.specs.declared.refusal.Refusal.TheVariants.{CutShort, BadNumber, Unknown, OutOfRange, WrongStanding, Occupied, NoTicket}
use Rattle.fields.specs.declared.refusal.Refusal.TheVariants.{TooLong, NoSpace}
use Rattle.fields.specs.declared.refusal.NoRefusal.{NoRefusal}

abbrev pub refusal_text : Refusal → List ℕ
refusal_text CutShort = codes "the bytes end inside a record"
refusal_text BadNumber = codes "a number is written badly"
refusal_text Unknown = codes "a kind or an operator is unknown"
refusal_text OutOfRange = codes "a number is out of range"
refusal_text WrongStanding = codes "the job does not stand where this needs it"
refusal_text Occupied = codes "another job is inside"
refusal_text NoTicket = codes "no ticket is left"
refusal_text TooLong = codes "the input is too long"
refusal_text NoSpace = codes "what is written does not fit"

abbrev pub no_refusal_text : NoRefusal → List ℕ
no_refusal_text none = codes "no refusal has number " ++ decimal none.0

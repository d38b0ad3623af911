-- A rank as one number: the numbers that rank an alternative (Rank of the rules), packed from the most telling down.
use Rattle.std.specs.Prelude.{List, ℕ, suc, ◌+◌, ◌*◌, ◌-◌, ◌^◌, ◌%◌, ◌<◌, ℤ, pos, negsuc, neg_ℤ, if◌then◌else◌}
use Rattle.std.proofs.Math.Option.{Option, none, some}
use Rattle.rules.specs.Condition.{Atom}
use Rattle.rules.specs.Tag.{tag, is_equality}
use Rattle.rules.specs.Rank.{is_upward}
use Rattle.rules.specs.Laws.Bounds.{Within}

-- how far from 0 a key may be: wider than document 01's 401,000,000
abbrev pub key_room : ℕ
key_room = 2 ^ 39 - 1

-- key + 2 ^ 39: such keys in their order, from 1 on
abbrev pub biased : ℤ → ℕ
biased (pos n) = 2 ^ 39 + n
biased (negsuc n) = 2 ^ 39 - suc n

abbrev pub packed : (class measure direction key strict : ℕ) → ℕ
packed class measure direction key strict = class * 2 ^ 46 + measure * 2 ^ 42 + direction * 2 ^ 41 + key * 2 + strict

-- As `place` ranks a tag, but that the key of an equality tag stands here too: those of one measure that hold have one key.
unfoldable pub high_word : Option Atom → ℕ
high_word none = packed 2 0 0 0 0
high_word (some a) =
    if is_equality a then packed 0 a.measure 0 (biased a.key) 0
    else if is_upward a then packed 1 a.measure 0 (biased a.key) (a.operator % 2)
    else packed 1 a.measure 1 (biased (neg_ℤ a.key)) (a.operator % 2)

abbrev pub low_word : ℕ → ℕ → ℕ
low_word ticket i = ticket * 4 + i

-- of alternative number i of a condition with this ticket
abbrev pub word : List Atom → ℕ → ℕ → ℕ
word alternative ticket i = high_word (tag alternative) * 2 ^ 64 + low_word ticket i

-- a tag whose numbers have room in the word
abbrev pub TagFits : Option Atom → Type 0
TagFits none = Unit {0}
TagFits (some a) = (a.measure < 16) × Within key_room a.key

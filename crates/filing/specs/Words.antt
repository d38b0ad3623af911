-- The rank words of nodes. A call is handed a key by its bits, and a key within document 01's range is what its bits stand for.
use Rattle.std.specs.Prelude.{Option, Some, None, ◌≡◌, List, ℕ, ◌*◌, ◌<◌, ℤ, pos, get_or}
use Rattle.std.proofs.Common.{sym, ap, subst, ◌∙◌, arith, lit<, lit≤, Fits, to_z, of_z}
use Rattle.std.proofs.Math.Option.{none, some}
use Rattle.std.specs.Int.{w64}
use Rattle.rules.specs.Limits.{key_most}
use Rattle.rules.specs.Laws.Bounds.{Within, within_more}
use Rattle.integers.specs.Machine.{is, held}
use Rattle.condition.specs.Measures.{AllIn}
use Rattle.condition.specs.Tags.{tag_at, tag_means, tag-slot}
use Rattle.ranks.specs.Words.{key_room, biased, packed, high_word}
use Rattle.ranks.specs.Cases.{handed-word}

-- of a node's alternative
abbrev pub high_at : List ℕ → List ℕ → List ℕ → List ℤ → ℕ → ℕ
high_at atoms measure operator key node = high_word (tag_means measure operator key (tag_at atoms operator node))

-- of the equality tags of a measure that hold at a value of it
abbrev pub equality_word : ℕ → ℤ → ℕ
equality_word measure value = packed 0 measure 0 (biased value) 0

pub key-room : (key : List ℤ) → AllIn key_most key → AllIn key_room key
key-room key f k = within_more (f k) (lit≤ tt)

pub key-handed : (key : List ℤ) → AllIn key_most key → (slot : ℕ) → Within key_room (to_z w64 (of_z w64 (get_or key slot (pos 0))))
key-handed key f slot = subst (Within key_room) (sym (is (held (key-room key f slot) (lit< tt)))) (key-room key f slot)

-- ---- the answers of `word_of`, and that it reads keys in their array
pub slot-fits : (atoms operator : List ℕ) (node : ℕ) {t : Option ℕ} → t ≡ tag_at atoms operator node → {slot : ℕ} →
    t ≡ Some slot → node < 128 → Fits w64 (slot * 8)
slot-fits atoms operator node is at small = record { fits = omega (arith, tag-slot atoms operator node is at small) }

module _ (atoms measure operator : List ℕ) (key : List ℤ) (node : ℕ) {t : Option ℕ} (is : t ≡ tag_at atoms operator node) {r : ℕ} where
  pub word-nowhere : t ≡ None → r ≡ high_word none → r ≡ high_at atoms measure operator key node
  word-nowhere e w = w ∙ ap (λ o. high_word (tag_means measure operator key o)) (sym e ∙ is)

  pub word_at : {slot : ℕ} → t ≡ Some slot → AllIn key_most key →
      r ≡ high_word (some (record { measure = get_or measure slot 0; operator = get_or operator slot 0; key = to_z w64 (of_z w64 (get_or key slot (pos 0))) })) →
      r ≡ high_at atoms measure operator key node
  word_at {slot} e f w = handed-word (get_or measure slot 0) (get_or operator slot 0) (get_or key slot (pos 0)) (key-room key f slot) w ∙ ap (λ o. high_word (tag_means measure operator key o)) (sym e ∙ is)

-- ---- and of `equality_word`
pub equality-is : (measure : ℕ) (value : ℤ) {r : ℕ} → Within key_room value → r ≡ high_word (some (record { measure = measure; operator = 1; key = to_z w64 (of_z w64 value) })) → r ≡ equality_word measure value
unfolding high_word
equality-is measure value p w = handed-word measure 1 value p w

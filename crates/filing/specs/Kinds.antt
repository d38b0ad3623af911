-- A tag by its class: its home, its word, and when it holds, all by the numbers of the class. For < and ≤ the key is turned over, and so is the
-- measure's value.
use Rattle.std.specs.Prelude.{◌≡◌, refl, Bool, true, false, ◌⊎◌, List, ℕ, zero, suc, ◌+◌, ◌*◌, ◌%◌, ◌≤◌, leb, eqb, ℤ, pos, neg_ℤ, get_or}
use Rattle.std.proofs.Common.{inl, inr, arith, eqb-true, leb-true, leb-false}
use Rattle.std.proofs.Math.Option.{Option, none, some}
use Rattle.std.proofs.lemmas.Bool.{eqb-false}
use Rattle.rules.specs.Base.{eq_z}
use Rattle.rules.specs.Condition.{Atom}
use Rattle.rules.specs.Tag.{holds, is_equality}
use Rattle.rules.specs.Rank.{is_upward}
use Rattle.rules.specs.Laws.In.{by_bool}
use Rattle.rules.specs.Laws.Bounds.{Within}
use Rattle.ranks.specs.Words.{key_room, biased, high_word, TagFits}
use Rattle.ranks.specs.Biased.{within-neg}
use Rattle.ranks.specs.Classes.{Class, equality, threshold, untagged, high, ClassFits}
use Rattle.filing.specs.Homes.{home}
use Rattle.filing.specs.Thresholds.{less, at_most, less-turned, at-most-turned}

-- the operator of a tag is 1, or 3 to 6
abbrev pub TagOperator : Option Atom → Type 0
TagOperator none = Unit {0}
TagOperator (some a) = (a.operator ≡ 1) ⊎ ((3 ≤ a.operator) × (a.operator ≤ 6))

abbrev pub class_home : Class → ℕ
class_home (equality measure key) = 32
class_home (threshold measure direction key strict) = measure * 2 + direction
class_home untagged = 33

-- as a direction sees a number
abbrev pub facing : ℕ → ℤ → ℤ
facing zero z = z
facing (suc n) z = neg_ℤ z

abbrev pub class_holds : List ℤ → Class → Bool
class_holds now (equality measure key) = eq_z (get_or now measure (pos 0)) key
class_holds now (threshold measure direction key strict) = leb (biased key * 2 + strict) (biased (facing direction (get_or now measure (pos 0))) * 2)
class_holds now untagged = true

-- the value that a threshold is compared with has room
abbrev pub Readable : List ℤ → Class → Type 0
Readable now (equality measure key) = Unit {0}
Readable now (threshold measure direction key strict) = Within key_room (get_or now measure (pos 0))
Readable now untagged = Unit {0}

pub record Kind (o : Option Atom) : Type 0 where
  pub class : Class
  pub fits : ClassFits class
  pub home-is : home o ≡ class_home class
  pub word-is : high_word o ≡ high class
  pub holds-is : TagOperator o → (now : List ℤ) → Readable now class → holds now o ≡ class_holds now class

-- ---- a threshold holds as its class does
module _ (a : Atom) (other : is_equality a ≡ false) (room : Within key_room a.key) (now : List ℤ) (value : Within key_room (get_or now a.measure (pos 0))) where
  one_of : {C : Type 0} → TagOperator (some a) → (3 ≤ a.operator → a.operator ≤ 6 → C) → C
  one_of (inl e) f = absurd (eqb-false a.operator 1 other e)
  one_of (inr h) f = f h.0 h.1

  upward-holds : is_upward a ≡ true → TagOperator (some a) → holds now (some a) ≡ leb (biased a.key * 2 + a.operator % 2) (biased (get_or now a.measure (pos 0)) * 2)
  upward-holds u t = one_of t (λ low high. by_bool (eqb a.operator 5)
      (λ e. rw (eqb-true a.operator 5 e) (less room value))
      (λ e. let o : a.operator ≡ 6 = omega (arith, leb-true 5 a.operator u, eqb-false a.operator 5 e) in rw o (at_most room value)))

  downward-holds : is_upward a ≡ false → TagOperator (some a) → holds now (some a) ≡ leb (biased (neg_ℤ a.key) * 2 + a.operator % 2) (biased (neg_ℤ (get_or now a.measure (pos 0))) * 2)
  downward-holds u t = one_of t (λ low high. by_bool (eqb a.operator 3)
      (λ e. rw (eqb-true a.operator 3 e) (less-turned value room))
      (λ e. let o : a.operator ≡ 4 = omega (arith, leb-false 5 a.operator u, eqb-false a.operator 3 e) in rw o (at-most-turned value room)))

pub kind : (o : Option Atom) → TagFits o → Kind o
unfolding high_word
kind none f = record { class = untagged; fits = tt; home-is = refl; word-is = refl; holds-is = λ t now r. refl }
kind (some a) f = by_bool (is_equality a)
    (λ e. record {
      class = equality a.measure a.key;
      fits = f;
      home-is = rw e;
      word-is = rw e;
      holds-is = λ t now r. rw (eqb-true a.operator 1 e);
    })
    (λ e. by_bool (is_upward a)
    (λ u. record {
      class = threshold a.measure 0 a.key (a.operator % 2);
      fits = (f.0, f.1, omega arith, omega arith);
      home-is = rw (e, u) (omega arith);
      word-is = rw (e, u);
      holds-is = λ t now r. upward-holds a e f.1 now r u t;
    })
    (λ u. record {
      class = threshold a.measure 1 (neg_ℤ a.key) (a.operator % 2);
      fits = (f.0, within-neg f.1, omega arith, omega arith);
      home-is = rw (e, u);
      word-is = rw (e, u);
      holds-is = λ t now r. downward-holds a e f.1 now r u t;
    }))

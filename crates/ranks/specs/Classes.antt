-- A tag by its class, with the numbers that rank it there: `place` lists them and `high_word` packs them, by the same tests.
use Rattle.std.specs.Prelude.{◌≡◌, refl, true, List, [], ◌∷◌, ℕ, ◌+◌, ◌*◌, ◌^◌, ◌%◌, ◌<◌, ◌≤◌, get_or, ℤ, pos, neg_ℤ}
use Rattle.std.proofs.Math.Option.{Option, none, some}
use Rattle.std.proofs.Common.{arith, eqb-true}
use Rattle.rules.specs.Condition.{Atom}
use Rattle.rules.specs.Tag.{holds, is_equality}
use Rattle.rules.specs.Rank.{is_upward, place}
use Rattle.rules.specs.Laws.In.{by_bool}
use Rattle.rules.specs.Laws.Bounds.{Within}
use Rattle.rules.proofs.Laws.Identical.{eq_z-true}
use Rattle.ranks.specs.Words.{key_room, biased, packed, high_word, TagFits}
use Rattle.ranks.specs.Biased.{biased-below, within-neg}

pub data Class : Type 0 where
  equality : (measure : ℕ) (key : ℤ) → Class
  threshold : (measure direction : ℕ) (key : ℤ) (strict : ℕ) → Class
  untagged : Class

abbrev pub class_number : Class → ℕ
class_number (equality measure key) = 0
class_number (threshold measure direction key strict) = 1
class_number untagged = 2

-- the numbers that follow the class in `place`
abbrev pub further : Class → List ℤ
further (equality measure key) = pos measure ∷ []
further (threshold measure direction key strict) = pos measure ∷ pos direction ∷ key ∷ pos strict ∷ []
further untagged = []

abbrev pub high : Class → ℕ
high (equality measure key) = packed 0 measure 0 (biased key) 0
high (threshold measure direction key strict) = packed 1 measure direction (biased key) strict
high untagged = packed 2 0 0 0 0

abbrev pub ClassFits : Class → Type 0
ClassFits (equality measure key) = (measure < 16) × Within key_room key
ClassFits (threshold measure direction key strict) = (measure < 16) × Within key_room key × (direction < 2) × (strict < 2)
ClassFits untagged = Unit {0}

pub high-least : (c : Class) → ClassFits c → class_number c * 2 ^ 46 ≤ high c
high-least (equality measure key) f = omega arith
high-least (threshold measure direction key strict) f = omega arith
high-least untagged f = omega arith

pub high-below : (c : Class) → ClassFits c → high c < class_number c * 2 ^ 46 + 2 ^ 46
high-below (equality measure key) f = omega (arith, biased-below f.1)
high-below (threshold measure direction key strict) f = omega (arith, biased-below f.1)
high-below untagged f = omega arith

pub class-number-most : (c : Class) → class_number c ≤ 2
class-number-most (equality measure key) = omega arith
class-number-most (threshold measure direction key strict) = omega arith
class-number-most untagged = omega arith

-- an equality tag that holds has the measure's value for its key
abbrev pub Valued : List ℤ → Class → Type 0
Valued now (equality measure key) = get_or now measure (pos 0) ≡ key
Valued now (threshold measure direction key strict) = Unit {0}
Valued now untagged = Unit {0}

pub record Classed (o : Option Atom) : Type 0 where
  pub class : Class
  pub fits : ClassFits class
  pub place_is : place o ≡ pos (class_number class) ∷ further class
  pub word-is : high_word o ≡ high class
  pub valued : (now : List ℤ) → holds now o ≡ true → Valued now class

pub classed : (o : Option Atom) → TagFits o → Classed o
unfolding high_word
classed none f = record { class = untagged; fits = tt; place_is = refl; word-is = refl; valued = λ now h. tt }
classed (some a) f = by_bool (is_equality a)
    (λ e. record {
      class = equality a.measure a.key;
      fits = f;
      place_is = rw e;
      word-is = rw e;
      valued = λ now h. eq_z-true (get_or now a.measure (pos 0)) a.key (rw (eqb-true a.operator 1 e) at h);
    })
    (λ e. by_bool (is_upward a)
    (λ u. record {
      class = threshold a.measure 0 a.key (a.operator % 2);
      fits = (f.0, f.1, omega arith, omega arith);
      place_is = rw (e, u);
      word-is = rw (e, u);
      valued = λ now h. tt;
    })
    (λ u. record {
      class = threshold a.measure 1 (neg_ℤ a.key) (a.operator % 2);
      fits = (f.0, within-neg f.1, omega arith, omega arith);
      place_is = rw (e, u);
      word-is = rw (e, u);
      valued = λ now h. tt;
    }))

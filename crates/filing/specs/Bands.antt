-- What a home says of the tags filed there. Their words keep to one band, and no two homes' bands meet; of the equality tags of a measure those hold
-- that have its word for the measure's value; of the tags in a heap those hold that come before one that holds; and those without a tag all do.
use Rattle.std.specs.Prelude.{◌≡◌, true, List, ℕ, ◌+◌, ◌*◌, ◌^◌, ◌<◌, ◌≤◌, ℤ, pos, get_or}
use Rattle.std.proofs.Common.{sym, ap, ◌∙◌, arith, leb-true, le-leb}
use Rattle.std.proofs.Math.Option.{Option}
use Rattle.rules.specs.Base.{eq_z}
use Rattle.rules.specs.Condition.{Atom}
use Rattle.rules.specs.Tag.{holds}
use Rattle.rules.specs.Laws.Bounds.{Within}
use Rattle.rules.proofs.Laws.Identical.{eq_z-true, eq_z-same}
use Rattle.ranks.specs.Words.{key_room, biased, high_word, TagFits}
use Rattle.ranks.specs.Biased.{biased-below}
use Rattle.ranks.specs.Classes.{Class, equality, threshold, untagged, high, ClassFits}
use Rattle.filing.specs.Homes.{home}
use Rattle.filing.specs.Words.{equality_word}
use Rattle.filing.specs.Thresholds.{biased-same}
use Rattle.filing.specs.Kinds.{TagOperator, class_home, class_holds, facing, Readable, kind}

-- ---- of classes
class-below : (c : Class) → ClassFits c → class_home c < 34
class-below (equality measure key) f = omega arith
class-below (threshold measure direction key strict) f = omega arith
class-below untagged f = omega arith

class-equality : (c : Class) → ClassFits c → class_home c ≡ 32 → high c < 2 ^ 46
class-equality (equality measure key) f h = omega (arith, biased-below f.1)
class-equality (threshold measure direction key strict) f h = absurd (omega arith)
class-equality untagged f h = absurd (omega arith)

class-heap : (c : Class) (g : ℕ) → ClassFits c → g < 32 → class_home c ≡ g → (2 ^ 46 + g * 2 ^ 41 ≤ high c) × (high c < 2 ^ 46 + g * 2 ^ 41 + 2 ^ 41)
class-heap (equality measure key) g f l h = absurd (omega arith)
class-heap (threshold measure direction key strict) g f l h = (omega arith, omega (arith, biased-below f.1))
class-heap untagged g f l h = absurd (omega arith)

class-untagged : (c : Class) → ClassFits c → class_home c ≡ 33 → high c ≡ 2 * 2 ^ 46
class-untagged (equality measure key) f h = absurd (omega arith)
class-untagged (threshold measure direction key strict) f h = absurd (omega arith)
class-untagged untagged f h = omega arith

-- ---- the words
module _ (o : Option Atom) (fits : TagFits o) where
  pub home_below : home o < 34
  home_below = let k = kind o fits in rw k.home-is (class-below k.class k.fits)

  pub equality-below : home o ≡ 32 → high_word o < 2 ^ 46
  equality-below h = let k = kind o fits in rw k.word-is (class-equality k.class k.fits (sym k.home-is ∙ h))

  pub heap-band : (g : ℕ) → g < 32 → home o ≡ g → (2 ^ 46 + g * 2 ^ 41 ≤ high_word o) × (high_word o < 2 ^ 46 + g * 2 ^ 41 + 2 ^ 41)
  heap-band g l h = let k = kind o fits in rw k.word-is (class-heap k.class g k.fits l (sym k.home-is ∙ h))

  pub untagged-word : home o ≡ 33 → high_word o ≡ 2 * 2 ^ 46
  untagged-word h = let k = kind o fits in k.word-is ∙ class-untagged k.class k.fits (sym k.home-is ∙ h)

pub equality-band : (m : ℕ) (v : ℤ) → Within key_room v → (m * 2 ^ 42 ≤ equality_word m v) × (equality_word m v < m * 2 ^ 42 + 2 ^ 42)
equality-band m v p = (omega arith, omega (arith, biased-below p))

-- ---- an equality tag holds exactly if its word is that of the measure's value
module _ (o : Option Atom) (fits : TagFits o) (operators : TagOperator o) (now : List ℤ) where
  pub equality-holds : (m : ℕ) → home o ≡ 32 → Within key_room (get_or now m (pos 0)) →
      (high_word o ≡ equality_word m (get_or now m (pos 0)) → holds now o ≡ true)
      × (holds now o ≡ true → m * 2 ^ 42 ≤ high_word o → high_word o < m * 2 ^ 42 + 2 ^ 42 → high_word o ≡ equality_word m (get_or now m (pos 0)))
  equality-holds m h p = let k = kind o fits in go k.class k.fits (sym k.home-is ∙ h) k.word-is (k.holds-is operators now)
    where
      go : (c : Class) → ClassFits c → class_home c ≡ 32 → high_word o ≡ high c → (Readable now c → holds now o ≡ class_holds now c) →
          (high_word o ≡ equality_word m (get_or now m (pos 0)) → holds now o ≡ true)
          × (holds now o ≡ true → m * 2 ^ 42 ≤ high_word o → high_word o < m * 2 ^ 42 + 2 ^ 42 → high_word o ≡ equality_word m (get_or now m (pos 0)))
      go (equality measure key) f h w r = (forth, back)
        where
          forth : high_word o ≡ equality_word m (get_or now m (pos 0)) → holds now o ≡ true
          forth e =
              let b = biased-below f.1 in
              let d = biased-below p in
              let s : equality_word measure key ≡ equality_word m (get_or now m (pos 0)) = sym w ∙ e in
              let n : measure ≡ m = omega (arith, s, b, d) in
              let i : biased key ≡ biased (get_or now m (pos 0)) = omega (arith, s, n) in
              let v : get_or now measure (pos 0) ≡ key = ap (λ x. get_or now x (pos 0)) n ∙ sym (biased-same key (get_or now m (pos 0)) f.1 p i) in
              r tt ∙ ap (λ z. eq_z z key) v ∙ eq_z-same key

          back : holds now o ≡ true → m * 2 ^ 42 ≤ high_word o → high_word o < m * 2 ^ 42 + 2 ^ 42 → high_word o ≡ equality_word m (get_or now m (pos 0))
          back t low up =
              let n : measure ≡ m = omega (arith, w, low, up, biased-below f.1) in
              let v = eq_z-true (get_or now measure (pos 0)) key (sym (r tt) ∙ t) in
              w ∙ (λ i. equality_word (n i) (sym v i)) ∙ ap (λ x. equality_word m (get_or now x (pos 0))) n
      go (threshold measure direction key strict) f h w r = absurd (omega arith)
      go untagged f h w r = absurd (omega arith)

  pub untagged-holds : home o ≡ 33 → holds now o ≡ true
  untagged-holds h = let k = kind o fits in go k.class k.fits (sym k.home-is ∙ h) (k.holds-is operators now)
    where
      go : (c : Class) → ClassFits c → class_home c ≡ 33 → (Readable now c → holds now o ≡ class_holds now c) → holds now o ≡ true
      go (equality measure key) f h r = absurd (omega arith)
      go (threshold measure direction key strict) f h r = absurd (omega arith)
      go untagged f h r = r tt

-- ---- in a heap, what comes before a tag that holds does too
module _ (now : List ℤ) (room : (m : ℕ) → Within key_room (get_or now m (pos 0))) where
  class-falls : (c d : Class) → ClassFits c → ClassFits d → class_home c ≡ class_home d → class_home c < 32 → high c ≤ high d → class_holds now d ≡ true → class_holds now c ≡ true
  class-falls (threshold measure₁ direction₁ key₁ strict₁) (threshold measure₂ direction₂ key₂ strict₂) f g same l w t =
      let m : measure₁ ≡ measure₂ = omega (arith, same, f.2, g.2) in
      let d : direction₁ ≡ direction₂ = omega (arith, same, m) in
      let v : biased (facing direction₁ (get_or now measure₁ (pos 0))) ≡ biased (facing direction₂ (get_or now measure₂ (pos 0))) = (λ i. biased (facing (d i) (get_or now (m i) (pos 0)))) in
      le-leb (biased key₁ * 2 + strict₁) (biased (facing direction₁ (get_or now measure₁ (pos 0))) * 2)
      (omega (arith, m, d, w, v, leb-true (biased key₂ * 2 + strict₂) (biased (facing direction₂ (get_or now measure₂ (pos 0))) * 2) t))
  class-falls (equality measure₁ key₁) d f g same l w t = absurd (omega arith)
  class-falls untagged d f g same l w t = absurd (omega arith)
  class-falls (threshold measure₁ direction₁ key₁ strict₁) (equality measure₂ key₂) f g same l w t = absurd (omega (arith, same))
  class-falls (threshold measure₁ direction₁ key₁ strict₁) untagged f g same l w t = absurd (omega (arith, same))

  readable : (c : Class) → Readable now c
  readable (equality measure key) = tt
  readable (threshold measure direction key strict) = room measure
  readable untagged = tt

  pub threshold-falls : (o p : Option Atom) → TagFits o → TagFits p → TagOperator o → TagOperator p → home o ≡ home p → home o < 32 → high_word o ≤ high_word p → holds now p ≡ true → holds now o ≡ true
  threshold-falls o p o-fits p-fits o-operator p-operator same l w t =
      let c = kind o o-fits in
      let d = kind p p-fits in
      c.holds-is o-operator now (readable c.class)
      ∙ class-falls c.class d.class c.fits d.fits (sym c.home-is ∙ same ∙ d.home-is) (rw c.home-is at l) (rw (c.word-is, d.word-is) at w) (sym (d.holds-is p-operator now (readable d.class)) ∙ t)

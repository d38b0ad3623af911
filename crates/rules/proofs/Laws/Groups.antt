-- The bytes of a number, and the number that bytes are read as, group by group: each is the other's inverse, since a number has one way to be written in
-- groups without a last group of 0.
use Rattle.std.specs.Prelude.{◌≡◌, refl, Bool, true, false, ◌&&◌, ◌||◌, List, [], ◌∷◌, ◌++◌, ℕ, zero, suc, ◌+◌, ◌*◌, ◌-◌, ◌/◌, ◌%◌, ◌≤◌, ◌<◌, leb, ltb, eqb}
use Rattle.std.proofs.Common.{sym, ap, ◌∙◌, subst, arith}
use borrow.Author.Tests.{ltb-true, ltb-false, lt-ltb, le-ltb, eq-eqb, ne_eqb, lt-leb}
use Rattle.rules.specs.Number.{read, refused, pure, after, bad_group, groups, number}
use Rattle.rules.specs.Writer.{groups_of, number_bytes}
use Rattle.rules.specs.Laws.Bounds.{Each}
use Rattle.rules.specs.Laws.Cases.{by_lt, by_eq}
use Rattle.rules.specs.Laws.Readers.{read-refused, read_same}
use Rattle.rules.specs.Laws.Groups.{Byte, room, Stood, after_read}

-- ---- a group that is not refused
abbrev Good : ℕ → ℕ → Type 0
Good place b = (place ≡ 5 → b < 16) × (1 < place → 0 < b)

good-free : (place b : ℕ) → Good place b → bad_group place b ≡ false
good-free place b g = by_eq place 5
    (λ e. rw (eq-eqb place 5 e, lt-leb 16 b (g.0 e), lt-ltb 1 place (omega arith), ne_eqb b 0 (λ z. omega (arith, g.1 (omega arith)))) refl)
    (λ d. rw (ne_eqb place 5 d) (by_lt 1 place (λ h. rw (lt-ltb 1 place h, ne_eqb b 0 (λ z. omega (arith, g.1 h))) refl) (λ h. rw (le-ltb 1 place h) refl)))

free-good : (place b : ℕ) → bad_group place b ≡ false → Good place b
free-good place b e = (
  (λ f. by_lt b 16 (λ h. h) (λ h. let z : true ≡ false = rw (eq-eqb place 5 f, borrow.Author.Tests.le-leb 16 b h) at e in absurd (no z))),
  (λ h. by_lt 0 b (λ p. p) (λ p. let z : (eqb place 5 && leb 16 b || true) ≡ false = rw (lt-ltb 1 place h, eq-eqb b 0 (omega (arith, p))) at e in absurd (no (sym (last (eqb place 5 && leb 16 b)) ∙ z)))),
)
  where
    no : true ≡ false → ⊥
    no z = let y : ◌≡◌ {A = ℕ} 0 1 = cc in omega arith

    last : (t : Bool) → (t || true) ≡ true
    last true = refl
    last false = refl

pub room-more : (k : ℕ) → 16 ≤ room (suc k)
room-more zero = omega arith
room-more (suc k) = omega (arith, room-more k)

-- ---- one group, read and written
group-last : (place b : ℕ) (rest : List ℕ) → bad_group place b ≡ false → ltb b 128 ≡ true → groups place (b ∷ rest) ≡ read b rest
group-last place b rest x y = λ i. elim (x i) [ true ↦ refused 2 | false ↦ elim (y i) [ true ↦ read b rest | false ↦ after (groups (suc place) rest) (λ m. pure (b - 128 + 128 * m)) ] ]

group-more : (place b m : ℕ) (bytes rest : List ℕ) → bad_group place b ≡ false → ltb b 128 ≡ false → groups (suc place) bytes ≡ read m rest → groups place (b ∷ bytes) ≡ read (b - 128 + 128 * m) rest
group-more place b m bytes rest x y d = λ i. elim (x i) [ true ↦ refused 2 | false ↦ elim (y i) [ true ↦ read b bytes | false ↦ after (d i) (λ m. pure (b - 128 + 128 * m)) ] ]

pub of-small : (k n : ℕ) → n < 128 → groups_of (suc k) n ≡ n ∷ []
of-small k n h = rw (lt-ltb n 128 h) refl

pub of-large : (k n : ℕ) → 128 ≤ n → groups_of (suc k) n ≡ (n % 128 + 128) ∷ groups_of k (n / 128)
of-large k n h = rw (le-ltb n 128 h) refl

-- ---- written, it reads back
pub groups-back : (k place n : ℕ) → place + k ≡ 6 → 1 ≤ place → n < room k → (1 < place → 0 < n) → (rest : List ℕ) → groups place (groups_of k n ++ rest) ≡ read n rest
groups-back zero place n e p h g rest = absurd (omega arith)
groups-back (suc zero) place n e p h g rest =
    let small : n < 128 = omega arith in
    ap (λ l. groups place (l ++ rest)) (of-small 0 n small) ∙ group-last place n rest (good-free place n ((λ f. h), g)) (lt-ltb n 128 small)
groups-back (suc (suc k)) place n e p h g rest = by_lt n 128
    (λ l. ap (λ m. groups place (m ++ rest)) (of-small (suc k) n l) ∙ group-last place n rest (good-free place n ((λ f. absurd (omega arith)), g)) (lt-ltb n 128 l))
    (λ l.
    let b = n % 128 + 128 in
    let back = groups-back (suc k) (suc place) (n / 128) (omega arith) (omega arith) (omega arith) (λ q. omega arith) rest in
    let whole : b - 128 + 128 * (n / 128) ≡ n = omega arith in
    ap (λ m. groups place (m ++ rest)) (of-large (suc k) n l)
    ∙ group-more place b (n / 128) (groups_of (suc k) (n / 128) ++ rest) rest (good-free place b ((λ f. absurd (omega arith)), λ q. omega arith)) (le-ltb b 128 (omega arith)) back
    ∙ ap (λ m. read m rest) whole)

one-group : (k place b : ℕ) (bytes : List ℕ) → place + k ≡ 6 → 1 ≤ k → Good place b → b < 128 → Stood k place b (b ∷ bytes) bytes
one-group zero place b bytes e q g small = absurd (omega arith)
one-group (suc zero) place b bytes e q g small = record { is = rw (lt-ltb b 128 small) refl; fits = g.0 (omega arith); some = g.1 }
one-group (suc (suc k)) place b bytes e q g small = record { is = rw (lt-ltb b 128 small) refl; fits = omega (arith, room-more k); some = g.1 }

more-groups : (k place b m : ℕ) (bytes rest : List ℕ) → place + suc k ≡ 6 → Byte b → 128 ≤ b → Stood k (suc place) m bytes rest → 1 ≤ place → Stood (suc k) place (b - 128 + 128 * m) (b ∷ bytes) rest
more-groups zero place b m bytes rest e h l s p = absurd (omega (arith, s.fits))
more-groups (suc k) place b m bytes rest e h l s p =
    let n = b - 128 + 128 * m in
    let pos : 0 < m = s.some (omega arith) in
    let low : n % 128 + 128 ≡ b = omega arith in
    let high : n / 128 ≡ m = omega arith in
    record {
      is = rw (le-ltb n 128 (omega arith)) (λ i. sym low i ∷ (s.is ∙ ap (λ j. groups_of (suc k) j ++ rest) (sym high)) i);
      fits = omega (arith, s.fits);
      some = λ q. omega arith;
    }

pub groups-stood : (bytes : List ℕ) → Each Byte bytes → (k place n : ℕ) → place + k ≡ 6 → 1 ≤ place → 1 ≤ k → (rest : List ℕ) → groups place bytes ≡ read n rest → Stood k place n bytes rest
groups-stood [] each k place n e p q rest d = read-refused (sym d)
groups-stood (b ∷ bytes) each zero place n e p q rest d = absurd (omega arith)
groups-stood (b ∷ bytes) each (suc k) place n e p q rest d =
    go (λ m mid left f. groups-stood bytes each.1 k (suc place) m (omega arith) (omega arith) left mid f) (bad_group place b) refl (ltb b 128) refl d
  where
    go : ((m : ℕ) (mid : List ℕ) → 1 ≤ k → groups (suc place) bytes ≡ read m mid → Stood k (suc place) m bytes mid) → (t : Bool) → bad_group place b ≡ t → (u : Bool) → ltb b 128 ≡ u →
        elim t [ true ↦ refused 2 | false ↦ elim u [ true ↦ read b bytes | false ↦ after (groups (suc place) bytes) (λ m. pure (b - 128 + 128 * m)) ] ] ≡ read n rest → Stood (suc k) place n (b ∷ bytes) rest
    go ih true x u y z = read-refused (sym z)
    go ih false x true y z =
        let s = read_same z in
        subst (λ m. Stood (suc k) place m (b ∷ bytes) rest) s.0 (subst (Stood (suc k) place b (b ∷ bytes)) s.1 (one-group (suc k) place b bytes e q (free-good place b x) (ltb-true b 128 y)))
    go ih false x false y z =
        let r = after_read (groups (suc place) bytes) (λ m. pure (b - 128 + 128 * m)) z in
        let s = read_same r.3 in
        let big : 128 ≤ b = ltb-false b 128 y in
        let left : 1 ≤ k = by_lt place 5 (λ h. omega arith) (λ h. absurd (omega (arith, (free-good place b x).0 (omega arith)))) in
        let t = ih r.0 r.1 left r.2 in
        subst (λ m. Stood (suc k) place m (b ∷ bytes) rest) s.0 (subst (Stood (suc k) place (b - 128 + 128 * r.0) (b ∷ bytes)) s.1 (more-groups k place b r.0 bytes r.1 e each.0 big t p))

-- ---- whole numbers of document 01
pub number-back : (n : ℕ) → n < 4_294_967_296 → (rest : List ℕ) → number (number_bytes n ++ rest) ≡ read n rest
number-back n h rest = groups-back 5 1 n refl (omega arith) h (λ q. absurd (omega arith)) rest

pub number-stood : (bytes : List ℕ) → Each Byte bytes → (n : ℕ) (rest : List ℕ) → number bytes ≡ read n rest → (bytes ≡ number_bytes n ++ rest) × (n < 4_294_967_296)
number-stood bytes each n rest d = let s = groups-stood bytes each 5 1 n refl (omega arith) (omega arith) rest d in (s.is, s.fits)

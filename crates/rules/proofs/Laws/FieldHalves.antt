-- The fields of a record: a number that passes a test stands for something. Reader and writer of each are its two halves.
use Rattle.std.specs.Prelude.{◌≡◌, refl, Bool, true, false, ◌&&◌, List, ◌++◌, ℕ, ◌+◌, ◌*◌, ◌/◌, ◌%◌, ◌≤◌, ◌<◌, leb, ltb, ℤ, pos, negsuc, nat_abs}
use Rattle.std.proofs.Common.{sym, ap, ◌∙◌, arith, leb-true, ltb-true, le-leb, eq-eqb, ne_eqb}
use Rattle.rules.specs.Number.{read, Reader, only, after, ◌>>=◌, number, signed, field, below, signed_field}
use Rattle.rules.specs.Writer.{Written, written, number_bytes, unsigned, write_only, write_field, write_below, write_signed}
use Rattle.rules.specs.Laws.Cases.{by_eq}
use Rattle.rules.specs.Laws.In.{both}
use Rattle.rules.specs.Laws.Readers.{read-refused, read_same}
use Rattle.rules.proofs.Laws.Groups.{number-back, number-stood}
use Rattle.rules.specs.Laws.Groups.{after_read}
use Rattle.rules.specs.Laws.Halves.{Halves, written_same, halves-same, halves-any, written-if}

pub passes : (u : Bool) (refusal n : ℕ) (l : List ℕ) → write_only u refusal n ≡ written l → u ≡ true
passes u refusal n l e = (written-if u refusal (written (number_bytes n)) e).0

module _ {A : Type 0} (code : A → ℕ) (means : ℕ → A) (t : A → Bool) (refusal : ℕ) (small : (a : A) → t a ≡ true → code a < 4_294_967_296) (coded : (a : A) → means (code a) ≡ a)
    (meant : (n : ℕ) → code (means n) ≡ n) where
  abbrev reader : Reader A
  reader = number >>= λ n. only (t (means n)) refusal (means n)

  abbrev writer : A → Written
  writer a = write_only (t a) refusal (code a)

  only-passes : (u : Bool) (a b : A) (mid rest : List ℕ) → only u refusal a mid ≡ read b rest → (u ≡ true) × (a ≡ b) × (mid ≡ rest)
  only-passes true a b mid rest e = let s = read_same e in (refl, s.0, s.1)
  only-passes false a b mid rest e = read-refused (sym e)

  pub halves-coded : Halves (λ a. t a ≡ true) reader writer
  halves-coded = record {
    back = λ a g l e rest.
        let bytes : number_bytes (code a) ≡ l = written_same (sym (ap (λ u. write_only u refusal (code a)) g) ∙ e) in
        ap (λ m. reader (m ++ rest)) (sym bytes) ∙ ap (λ x. after x (λ n. only (t (means n)) refusal (means n))) (number-back (code a) (small a g) rest)
        ∙ (λ i. only (t (coded a i)) refusal (coded a i) rest) ∙ (λ i. only (g i) refusal a rest);
    stood = λ bytes each a rest d.
        let r = after_read (number bytes) (λ n. only (t (means n)) refusal (means n)) d in
        let s = only-passes (t (means r.0)) (means r.0) a r.1 rest r.3 in
        let n = number-stood bytes each r.0 r.1 r.2 in
        let passes : t a ≡ true = ap t (sym s.1) ∙ s.0 in
        let number_is : code a ≡ r.0 = ap code (sym s.1) ∙ meant r.0 in
        record {
          good = passes;
          front = number_bytes r.0;
          writes = (λ i. write_only (passes i) refusal (number_is i));
          is = n.0 ∙ ap (λ m. number_bytes r.0 ++ m) s.2;
        };
  }

pub halves_range : (refusal low high : ℕ) → high < 4_294_967_296 → Halves (λ n. (low ≤ n) × (n ≤ high)) (field refusal low high) (write_field refusal low high)
halves_range refusal low high h =
    halves-same (λ n e. let b = both (leb low n) (leb n high) e in (leb-true low n b.0, leb-true n high b.1)) (λ n g. rw (le-leb low n g.0, le-leb n high g.1) refl)
    (halves-coded (λ n. n) (λ n. n) (λ n. leb low n && leb n high) refusal (λ n e. omega (arith, leb-true n high (both (leb low n) (leb n high) e).1)) (λ n. refl) (λ n. refl))

pub halves-field : (refusal low high : ℕ) → high < 4_294_967_296 → Halves (λ n. Unit {0}) (field refusal low high) (write_field refusal low high)
halves-field refusal low high h =
    halves-any (λ n l e. let b = both (leb low n) (leb n high) (passes (leb low n && leb n high) refusal n l e) in (leb-true low n b.0, leb-true n high b.1)) (halves_range refusal low high h)

pub halves-below : (bound : ℕ) → bound < 4_294_967_296 → Halves (λ n. Unit {0}) (below bound) (write_below bound)
halves-below bound h = halves-any (λ n l e. passes (ltb n bound) 4 n l e)
    (halves-coded (λ n. n) (λ n. n) (λ n. ltb n bound) 4 (λ n e. omega (arith, ltb-true n bound e)) (λ n. refl) (λ n. refl))

signed_of : (z : ℤ) → signed (unsigned z) ≡ z
signed_of (pos n) = let e : 2 * n % 2 ≡ 0 = omega arith in let d : 2 * n / 2 ≡ n = omega arith in rw (e, d) refl
signed_of (negsuc n) = let e : (2 * n + 1) % 2 ≡ 1 = omega arith in let d : (2 * n + 1) / 2 ≡ n = omega arith in rw (e, d) refl

of-signed : (n : ℕ) → unsigned (signed n) ≡ n
of-signed n = by_eq (n % 2) 0 (λ e. rw (eq-eqb (n % 2) 0 e) (omega (arith, e))) (λ e. rw (ne_eqb (n % 2) 0 e) (omega (arith, e)))

unsigned-most : (most : ℕ) (z : ℤ) → nat_abs z ≤ most → unsigned z ≤ 2 * most
unsigned-most most (pos n) h = omega (arith, h)
unsigned-most most (negsuc n) h = omega (arith, h)

pub halves-signed : (most : ℕ) → most < 2_147_483_648 → Halves (λ z. Unit {0}) (signed_field most) (write_signed most)
halves-signed most h = halves-any (λ z l e. passes (leb (nat_abs z) most) 4 (unsigned z) l e)
    (halves-coded unsigned signed (λ z. leb (nat_abs z) most) 4 (λ z e. omega (arith, unsigned-most most z (leb-true (nat_abs z) most e))) signed_of of-signed)

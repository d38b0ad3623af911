-- What is made of the bytes of a record, from a place on: what the rules write, and the place after it; or the refusal. After a refusal
-- nothing is said of what
-- stands there: nobody reads it.
use Rattle.std.specs.Prelude.{◌≡◌, refl, Bool, true, false, ◌&&◌, List, [], ◌∷◌, ◌++◌, ℕ, zero, suc, ◌+◌, ◌*◌, ◌/◌, ◌%◌, ◌≤◌, ◌<◌, leb, ltb, ℤ, nat_abs, length, set, Result, Ok, Err, IsErrAnd, if◌then◌else◌}
use Rattle.std.proofs.Common.{sym, ap, ◌∙◌, subst, add-zero, suc-mul, arith, length-append, to_z, of_z, le-leb, lt-ltb, le-ltb}
use Rattle.std.specs.Int.Signed.{mag}
use Rattle.std.specs.Int.{w64}
use Rattle.std.proofs.lemmas.List.Edits.{sets}
use Rattle.std.proofs.Math.Seq.{length-sets}
use Rattle.std.proofs.lemmas.Bool.{lt-leb}
use Rattle.std.proofs.lemmas.Result.{err_from_is_err_and}
use Rattle.rules.specs.Writer.{Written, written, unwritten, ◌then◌, all-written, groups_of, number_bytes, unsigned, write_only, write_field, write_below, write_signed}
use Rattle.rules.specs.Laws.Cases.{by_lt}
use Rattle.rules.proofs.Laws.Groups.{of-small, of-large}
use Rattle.rules.specs.Laws.Halves.{written_same, written-not, both-written}
use Rattle.integers.specs.Machine.{back}
use Rattle.integers.specs.Mapping.{unsigned-size}
use Rattle.fields.specs.Answers.{numbered}
use Rattle.fields.specs.Refusals.{refusal_number}
use Rattle.fields.specs.declared.refusal.Refusal.{Refusal}
use Rattle.fields.specs.declared.refusal.Refusal.TheVariants.{OutOfRange}

abbrev pub place_after : ℕ → Written → Result ℕ ℕ
place_after at (written l) = Ok (at + length l)
place_after at (unwritten k) = Err k

pub record Puts (w : Written) (out out' : List ℕ) (at : ℕ) (r : Result ℕ Refusal) : Type 0 where
  pub place : numbered r ≡ place_after at w
  pub stored : (l : List ℕ) → w ≡ written l → out' ≡ sets out at l
  pub long : length out' ≡ length out

-- ---- the same of an answer whose refusal may be of any type, in a numbering of that type
abbrev pub numbered_by : {E : Type 0} → (E → ℕ) → Result ℕ E → Result ℕ ℕ
numbered_by number (Ok n) = Ok n
numbered_by number (Err e) = Err (number e)

pub record PutsBy {E : Type 0} (number : E → ℕ) (w : Written) (out out' : List ℕ) (at : ℕ) (r : Result ℕ E) : Type 0 where
  pub place : numbered_by number r ≡ place_after at w
  pub stored : (l : List ℕ) → w ≡ written l → out' ≡ sets out at l
  pub long : length out' ≡ length out

-- one of the nine refusals, by its number in document 01, is what `Puts` says
refusal_numbered : (r : Result ℕ Refusal) → numbered r ≡ numbered_by refusal_number r
refusal_numbered (Ok n) = refl
refusal_numbered (Err e) = refl

pub puts-numbered : {w : Written} {out out' : List ℕ} {at : ℕ} {r : Result ℕ Refusal} → PutsBy refusal_number w out out' at r →
    Puts w out out' at r
puts-numbered {r = r} p = record { place = refusal_numbered r ∙ p.place; stored = p.stored; long = p.long }

-- a plain number stands for itself, whatever it is
plain_numbered : (r : Result ℕ ℕ) → r ≡ numbered_by (λ k. k) r
plain_numbered (Ok n) = refl
plain_numbered (Err k) = refl

pub plain-place : {w : Written} {out out' : List ℕ} {at : ℕ} {r : Result ℕ ℕ} → PutsBy (λ k. k) w out out' at r → r ≡ place_after at w
plain-place {r = r} p = plain_numbered r ∙ p.place

-- of a signed number, as the machine hands it on
pub puts-signed : (most : ℕ) (z : ℤ) {out out' : List ℕ} {at : ℕ} {r : Result ℕ Refusal} → mag z < 9223372036854775808 →
    Puts (write_signed most (to_z w64 (of_z w64 z))) out out' at r → Puts (write_signed most z) out out' at r
puts-signed most z {out} {out'} {at} {r} h p = subst (λ y. Puts (write_signed most y) out out' at r) (back z h) p

-- ---- one field
module _ (out out' : List ℕ) (at next refusal n : ℕ) where
  puts-number : (t : Bool) → t ≡ true → out' ≡ sets out at (number_bytes n) → next ≡ at + length (number_bytes n) →
      Puts (write_only t refusal n) out out' at (Ok next)
  puts-number t e s p = record {
    place = ap Ok p ∙ sym (ap (λ u. place_after at (write_only u refusal n)) e);
    stored = λ l d. s ∙ ap (sets out at) (written_same (sym (ap (λ u. write_only u refusal n) e) ∙ d));
    long = ap length s ∙ length-sets out at (number_bytes n);
  }

module _ {E : Type 0} (number : E → ℕ) (out : List ℕ) (at : ℕ) (refusal : E) (n : ℕ) where
  refused-by : (t : Bool) → t ≡ false → PutsBy number (write_only t (number refusal) n) out out at (Err refusal)
  refused-by t e = record {
    place = sym (ap (λ u. place_after at (write_only u (number refusal) n)) e);
    stored = λ l d. written-not (sym (ap (λ u. write_only u (number refusal) n) e) ∙ d);
    long = refl;
  }

module _ (out : List ℕ) (at : ℕ) (refusal : Refusal) (n : ℕ) where
  puts-refused : (t : Bool) → t ≡ false → Puts (write_only t (refusal_number refusal) n) out out at (Err refusal)
  puts-refused t e = puts-numbered (refused-by refusal_number out at refusal n t e)

-- ---- by the code's tests
pub both_false : (t : Bool) → (t && false) ≡ false
both_false true = refl
both_false false = refl

-- whatever is refused, and however it is numbered
module _ {E : Type 0} (number : E → ℕ) (out : List ℕ) (at n low high : ℕ) (refusal : E) where
  pub field-low : n < low → PutsBy number (write_field (number refusal) low high n) out out at (Err refusal)
  field-low h = refused-by number out at refusal n (leb low n && leb n high) (ap (λ t. t && leb n high) (lt-leb low n h))

  pub field-high : high < n → PutsBy number (write_field (number refusal) low high n) out out at (Err refusal)
  field-high h = refused-by number out at refusal n (leb low n && leb n high)
      (ap (λ t. leb low n && t) (lt-leb n high h) ∙ both_false (leb low n))

module _ (out : List ℕ) (at n low high refusal : ℕ) where
  pub field_put : (out' : List ℕ) (next : ℕ) → low ≤ n → n ≤ high → out' ≡ sets out at (number_bytes n) →
      next ≡ at + length (number_bytes n) → Puts (write_field refusal low high n) out out' at (Ok next)
  field_put out' next l h = puts-number out out' at next refusal n (leb low n && leb n high) (λ i. le-leb low n l i && le-leb n high h i)

-- ---- a field: of a number in range its bytes and the place after them; else the refusal given, of whatever type, and nothing is stored
pub record PutsField {E : Type 0} (refusal : E) (low high n : ℕ) (out out' : List ℕ) (at : ℕ) (r : Result ℕ E) : Type 0 where
  pub place : r ≡ (if leb low n && leb n high then Ok (at + length (number_bytes n)) else Err refusal)
  pub bytes : out' ≡ (if leb low n && leb n high then sets out at (number_bytes n) else out)

module _ {E : Type 0} {refusal : E} {low high n : ℕ} {out : List ℕ} {at : ℕ} where
  -- two answers that this allows are the same
  pub one-field : {o p : List ℕ} {r s : Result ℕ E} → PutsField refusal low high n out o at r → PutsField refusal low high n out p at s →
      (r ≡ s) × (o ≡ p)
  one-field a b = (a.place ∙ sym b.place, a.bytes ∙ sym b.bytes)

  -- in every numbering of the refusal's type it is the rules' field
  pub field-puts : (number : E → ℕ) {out' : List ℕ} {r : Result ℕ E} → PutsField refusal low high n out out' at r →
      PutsBy number (write_field (number refusal) low high n) out out' at r
  field-puts number {out'} {r} f = go (leb low n && leb n high) f.place f.bytes
    where
      go : (t : Bool) → r ≡ (if t then Ok (at + length (number_bytes n)) else Err refusal) →
          out' ≡ (if t then sets out at (number_bytes n) else out) → PutsBy number (write_only t (number refusal) n) out out' at r
      go true e s = record {
        place = ap (numbered_by number) e;
        stored = λ l d. s ∙ ap (sets out at) (written_same d);
        long = ap length s ∙ length-sets out at (number_bytes n);
      }
      go false e s = record { place = ap (numbered_by number) e; stored = λ l d. written-not d; long = ap length s }

-- of a plain number, whatever it is
pub field-plain : {refusal low high n : ℕ} {out out' : List ℕ} {at : ℕ} {r : Result ℕ ℕ} → PutsField refusal low high n out out' at r →
    (r ≡ place_after at (write_field refusal low high n))
    × ((l : List ℕ) → write_field refusal low high n ≡ written l → out' ≡ sets out at l) × (length out' ≡ length out)
field-plain f = let p = field-puts (λ k. k) f in (plain-place p, p.stored, p.long)

-- of one of the nine
pub field-numbered : {refusal : Refusal} {low high n : ℕ} {out out' : List ℕ} {at : ℕ} {r : Result ℕ Refusal} →
    PutsField refusal low high n out out' at r → Puts (write_field (refusal_number refusal) low high n) out out' at r
field-numbered f = puts-numbered (field-puts refusal_number f)

module _ (out : List ℕ) (at n bound : ℕ) where
  pub below-high : bound ≤ n → Puts (write_below bound n) out out at (Err OutOfRange)
  below-high h = puts-refused out at OutOfRange n (ltb n bound) (le-ltb n bound h)

  pub below_put : (out' : List ℕ) (next : ℕ) → n < bound → out' ≡ sets out at (number_bytes n) → next ≡ at + length (number_bytes n) →
      Puts (write_below bound n) out out' at (Ok next)
  below_put out' next h = puts-number out out' at next 4 n (ltb n bound) (lt-ltb n bound h)

-- n is what stands for z
module _ (out : List ℕ) (at : ℕ) (z : ℤ) (most n : ℕ) (is : n ≡ unsigned z) where
  size_is : n / 2 + n % 2 ≡ nat_abs z
  size_is = ap (λ m. m / 2 + m % 2) is ∙ unsigned-size z

  pub size-far : most < nat_abs z → Puts (write_signed most z) out out at (Err OutOfRange)
  size-far h = puts-refused out at OutOfRange (unsigned z) (leb (nat_abs z) most) (lt-leb (nat_abs z) most h)

  pub signed-far : most < n / 2 + n % 2 → Puts (write_signed most z) out out at (Err OutOfRange)
  signed-far h = size-far (omega (arith, size_is))

  pub size-put : (out' : List ℕ) (next : ℕ) → nat_abs z ≤ most → out' ≡ sets out at (number_bytes n) → next ≡ at + length (number_bytes n) →
      Puts (write_signed most z) out out' at (Ok next)
  size-put out' next h s p =
      puts-number out out' at next 4 (unsigned z) (leb (nat_abs z) most) (le-leb (nat_abs z) most h)
      (s ∙ ap (λ m. sets out at (number_bytes m)) is) (p ∙ ap (λ m. at + length (number_bytes m)) is)

  pub signed-put : (out' : List ℕ) (next : ℕ) → n / 2 + n % 2 ≤ most → out' ≡ sets out at (number_bytes n) →
      next ≡ at + length (number_bytes n) → Puts (write_signed most z) out out' at (Ok next)
  signed-put out' next h = size-put out' next (omega (arith, size_is))

-- ---- how long: a field has at most five bytes
groups-short : (k n : ℕ) → length (groups_of k n) ≤ k
groups-short zero n = omega arith
groups-short (suc k) n = by_lt n 128 (λ h. omega (arith, ap length (of-small k n h)))
    (λ h. omega (arith, ap length (of-large k n h), groups-short k (n / 128)))

pub only-short : (t : Bool) (refusal n : ℕ) (l : List ℕ) → write_only t refusal n ≡ written l → length l ≤ 5
only-short true refusal n l e = omega (arith, groups-short 5 n, ap length (written_same e))
only-short false refusal n l e = written-not e

-- ---- one after the other
place_of : (at next : ℕ) (w : Written) → Ok next ≡ place_after at w → (l : List ℕ) × (w ≡ written l) × (next ≡ at + length l)
place_of at next (written l) e = (l, refl, cc)
place_of at next (unwritten k) e = let z : ◌≡◌ {A = ℕ} 0 1 = cc in absurd (omega arith)

no_place : (at k : ℕ) (v w : Written) → Err k ≡ place_after at v → (v then w) ≡ unwritten k
no_place at k (written l) w e = let z : ◌≡◌ {A = ℕ} 0 1 = cc in absurd (omega arith)
no_place at k (unwritten j) w e = let d : j ≡ k = cc in ap unwritten d

sets-append : (out : List ℕ) (at : ℕ) (l m : List ℕ) → sets (sets out at l) (at + length l) m ≡ sets out at (l ++ m)
sets-append out at [] m = ap (λ p. sets out p m) (add-zero at)
sets-append out at (x ∷ l) m = let e : at + suc (length l) ≡ suc at + length l = omega arith in
    ap (λ p. sets (sets (set out at x) (suc at) l) p m) e ∙ sets-append (set out at x) (suc at) l m

-- the place after what was put, and how far it is
pub record PutTo (v : Written) (at next : ℕ) : Type 0 where
  pub bytes : List ℕ
  pub writes : v ≡ written bytes
  pub is : next ≡ at + length bytes

module _ {v : Written} {out mid : List ℕ} {at : ℕ} {r : Result ℕ Refusal} (p : Puts v out mid at r) where
  pub put-to : {next : ℕ} → r ≡ Ok next → PutTo v at next
  put-to {next} e = let o = place_of at next v (sym (ap numbered e) ∙ p.place) in record { bytes = o.0; writes = o.1; is = o.2 }

  pub puts-stop : (w : Written) {k : Refusal} → r ≡ Err k → Puts (v then w) out mid at r
  puts-stop w {k} e =
      let no = no_place at (refusal_number k) v w (sym (ap numbered e) ∙ p.place) in
      record { place = ap numbered e ∙ sym (ap (place_after at) no); stored = λ l d. written-not (sym no ∙ d); long = p.long }

  -- a `?` hands the refusal on
  pub puts-stopped : (w : Written) {k : Refusal} {s : Result ℕ Refusal} → r ≡ Err k → IsErrAnd s (λ e. e ≡ k) → Puts (v then w) out mid at s
  puts-stopped w {k} {s} e q = let a = err_from_is_err_and s q in
      subst (λ x. Puts (v then w) out mid at x) (e ∙ ap Err (sym a.2) ∙ sym a.1) (puts-stop w e)

  pub puts_then : {w : Written} {next : ℕ} {out' : List ℕ} {s : Result ℕ Refusal} → r ≡ Ok next → Puts w mid out' next s →
      Puts (v then w) out out' at s
  puts_then {w} {next} {out'} {s} e q =
      let a = put-to e in
      record {
        place = q.place ∙ go w a ∙ sym (ap (λ u. place_after at (u then w)) a.writes);
        stored = λ l d. let b = both-written v w d in q.stored b.1 b.3 ∙ (λ i. sets (p.stored b.0 b.2 i) (a.is i) b.1)
            ∙ ap (λ n. sets (sets out at b.0) n b.1) (ap (λ k. at + length k) (written_same (sym a.writes ∙ b.2)))
            ∙ sets-append out at b.0 b.1 ∙ ap (sets out at) b.4;
        long = q.long ∙ p.long;
      }
    where
      go : (w : Written) (a : PutTo v at next) → place_after next w ≡ place_after at (written a.bytes then w)
      go (written m) a = let e : next + length m ≡ at + length (a.bytes ++ m) = omega (arith, a.is, length-append a.bytes m) in ap Ok e
      go (unwritten k) a = refl

-- ---- as far as the bytes reach
module _ {v : Written} {out mid : List ℕ} {at : ℕ} {r : Result ℕ Refusal} (p : Puts v out mid at r) where
  pub near : (m : ℕ) → ((l : List ℕ) → v ≡ written l → length l ≤ m) → {next : ℕ} → r ≡ Ok next → next ≤ at + m
  near m short e = let t = put-to p e in omega (arith, t.is, short t.bytes t.writes)

pub both-short : (m n : ℕ) (v w : Written) → ((l : List ℕ) → v ≡ written l → length l ≤ m) → ((l : List ℕ) → w ≡ written l → length l ≤ n) →
    (l : List ℕ) → (v then w) ≡ written l → length l ≤ m + n
both-short m n v w a b l e = let s = both-written v w e in omega (arith, a s.0 s.2, b s.1 s.3, length-append s.0 s.1, ap length s.4)

pub all_short : {A : Type 0} (w : A → Written) (m : ℕ) → ((a : A) (l : List ℕ) → w a ≡ written l → length l ≤ m) →
    (all : List A) (l : List ℕ) → all-written w all ≡ written l → length l ≤ length all * m
all_short w m short [] l e = omega (arith, ap length (written_same e))
all_short w m short (a ∷ all) l e =
    let s = both-written (w a) (all-written w all) e in
    rw (suc-mul (length all) m) (omega (arith, short a s.0 s.2, all_short w m short all s.1 s.3, length-append s.0 s.1, ap length s.4))

pub signed-short : (most : ℕ) (z : ℤ) (l : List ℕ) → write_signed most z ≡ written l → length l ≤ 5
signed-short most z = only-short (leb (nat_abs z) most) 4 (unsigned z)

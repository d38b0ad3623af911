-- A record that was made whole goes into the unwritten rest of a lent buffer, if it has room there; else, and after a refusal, the buffer
-- is as it was.
use Rattle.std.specs.Prelude.{◌≡◌, refl, List, [], ◌∷◌, ◌++◌, ℕ, suc, ◌+◌, ◌-◌, ◌<◌, ◌≤◌, leb, get_or, set, length, take, drop, Result, Ok, Err, IsErrAnd, if◌then◌else◌}
use Rattle.std.proofs.Common.{sym, ap, ◌∙◌, subst, arith, le-leb, append_assoc, drop-drop, length-set, get_or-set_same}
use Rattle.std.proofs.lemmas.Bool.{lt-leb}
use Rattle.std.proofs.lemmas.List.Edits.{sets, sets-eq}
use Rattle.std.proofs.lemmas.Result.{err_from_is_err_and}
use borrow.Rule.Slice.PartMut.{put_mid}
use Rattle.rules.specs.Writer.{Written, written, unwritten}
use Rattle.fields.specs.Answers.{numbered, same-numbered}
use Rattle.fields.specs.Refusals.{refusal_number}
use Rattle.fields.specs.declared.refusal.Refusal.{Refusal}
use Rattle.fields.specs.declared.refusal.Refusal.TheVariants.{NoSpace}
use Rattle.condition.specs.From.{from, from-many}
use Rattle.condition.specs.StoredFrom.{stored-before}
use Rattle.writer.specs.Puts.{Puts, place_after}
use Rattle.writer.specs.Rows.{from_part}

-- ---- the record that the rules write, in this buffer from this place on: refusal 9 when the rest is shorter
abbrev pub place_written : List ℕ → ℕ → Written → Result ℕ ℕ
place_written out at (written l) = if leb (at + length l) (length out) then Ok (at + length l) else Err 9
place_written out at (unwritten k) = Err k

abbrev pub bytes_written : List ℕ → ℕ → Written → List ℕ
bytes_written out at (written l) = if leb (at + length l) (length out) then sets out at l else out
bytes_written out at (unwritten k) = out

-- two answers that this allows are the same (`one-writes`)
pub record Writes (w : Written) (out out' : List ℕ) (at : ℕ) (r : Result ℕ Refusal) : Type 0 where
  pub place : numbered r ≡ place_written out at w
  pub bytes : out' ≡ bytes_written out at w

pub one-writes : {w : Written} {out o p : List ℕ} {at : ℕ} {r s : Result ℕ Refusal} → Writes w out o at r → Writes w out p at s →
    (r ≡ s) × (o ≡ p)
one-writes {r = r} {s} a b = (same-numbered r s (a.place ∙ sym b.place), a.bytes ∙ sym b.bytes)

-- ---- the same, of the bytes that were made and the place after them
abbrev pub made_bytes : List ℕ → ℕ → List ℕ
made_bytes made n = from (λ k. get_or made k 0) n 0

abbrev pub place_copied : List ℕ → ℕ → Result ℕ Refusal → Result ℕ ℕ
place_copied out at (Ok n) = if leb (at + n) (length out) then Ok (at + n) else Err 9
place_copied out at (Err e) = Err (refusal_number e)

abbrev pub bytes_copied : List ℕ → ℕ → List ℕ → Result ℕ Refusal → List ℕ
bytes_copied out at made (Ok n) = if leb (at + n) (length out) then sets out at (made_bytes made n) else out
bytes_copied out at made (Err e) = out

pub record Copies (out out' : List ℕ) (at : ℕ) (made : List ℕ) (p r : Result ℕ Refusal) : Type 0 where
  pub place : numbered r ≡ place_copied out at p
  pub bytes : out' ≡ bytes_copied out at made p

-- ---- by the code's tests
module _ (out : List ℕ) (at : ℕ) (made : List ℕ) {p : Result ℕ Refusal} where
  pub copies-none : {k : Refusal} → p ≡ Err k → Copies out out at made p p
  copies-none e = record { place = ap numbered e ∙ sym (ap (place_copied out at) e); bytes = sym (ap (bytes_copied out at made) e) }

  -- a `?` hands the refusal on
  pub copies-stopped : {k : Refusal} {s : Result ℕ Refusal} → p ≡ Err k → IsErrAnd s (λ e. e ≡ k) → Copies out out at made p s
  copies-stopped {s = s} e q = let a = err_from_is_err_and s q in
      subst (Copies out out at made p) (e ∙ ap Err (sym a.2) ∙ sym a.1) (copies-none e)

  no_room : {n : ℕ} → p ≡ Ok n → length out < at + n → Copies out out at made p (Err NoSpace)
  no_room {n} e h =
      let f = lt-leb (at + n) (length out) h in
      record {
        place = sym (ap (place_copied out at) e ∙ ap (λ t. if t then Ok (at + n) else Err 9) f);
        bytes = sym (ap (bytes_copied out at made) e ∙ ap (λ t. if t then sets out at (made_bytes made n) else out) f);
      }

  pub copies-past : {n : ℕ} → p ≡ Ok n → length out < at → Copies out out at made p (Err NoSpace)
  copies-past e h = no_room e (omega (arith, h))

  pub copies-short : {n : ℕ} → p ≡ Ok n → at ≤ length out → length out - at < n → Copies out out at made p (Err NoSpace)
  copies-short e l h = no_room e (omega (arith, l, h))

  pub copies-all : {n : ℕ} {out' : List ℕ} → p ≡ Ok n → at ≤ length out → n ≤ length out - at → out' ≡ sets out at (made_bytes made n) →
      Copies out out' at made p (Ok (at + n))
  copies-all {n} e l h s =
      let f = le-leb (at + n) (length out) (omega (arith, l, h)) in
      record {
        place = sym (ap (place_copied out at) e ∙ ap (λ t. if t then Ok (at + n) else Err 9) f);
        bytes = s ∙ sym (ap (bytes_copied out at made) e ∙ ap (λ t. if t then sets out at (made_bytes made n) else out) f);
      }

-- the part that was stored, as `copy_from_slice` leaves it
pub part_stored : (out ys made : List ℕ) (at n k : ℕ) → ys ≡ take n made → n ≤ length made → k ≡ n → at + n ≤ length out →
    put_mid at k out ys ≡ sets out at (made_bytes made n)
part_stored out ys made at n k e few h room =
    let whole : ys ≡ made_bytes made n = e ∙ from_part 0 made n 0 (omega (arith, few)) in
    let long = from-many (λ j. get_or made j 0) n 0 in
    let after : drop k (drop at out) ≡ drop (at + length (made_bytes made n)) out = drop-drop k at out
    ∙ ap (λ m. drop m out) (omega (arith, long, h)) in
    ap (λ l. take at out ++ (l ++ drop k (drop at out))) whole ∙ ap (λ l. take at out ++ (made_bytes made n ++ l)) after
    ∙ sym (append_assoc (take at out) (made_bytes made n) (drop (at + length (made_bytes made n)) out))
    ∙ sym (sets-eq (made_bytes made n) out at (omega (arith, long, room)))

-- ---- what was made is what the rules write
stored_back : (out : List ℕ) (p : ℕ) (l : List ℕ) → p + length l ≤ length out → from (λ k. get_or (sets out p l) k 0) (length l) p ≡ l
stored_back out p [] h = refl
stored_back out p (x ∷ l) h =
    let first : get_or (sets (set out p x) (suc p) l) p 0 ≡ x = stored-before 0 l (set out p x) (suc p) p (omega arith)
    ∙ get_or-set_same out p x 0 (omega (arith, h)) in
    let rest = stored_back (set out p x) (suc p) l (omega (arith, h, length-set out p x)) in
    λ i. first i ∷ rest i

module _ {w : Written} {zeros made : List ℕ} {p : Result ℕ Refusal} (puts : Puts w zeros made 0 p)
    (short : (l : List ℕ) → w ≡ written l → length l ≤ length zeros) where
  pub writes : {out out' : List ℕ} {at : ℕ} {r : Result ℕ Refusal} → Copies out out' at made p r → Writes w out out' at r
  writes {out} {out'} {at} {r} c = go w refl p refl
    where
      whole : (n : ℕ) (l : List ℕ) → w ≡ written l → p ≡ Ok n → n ≡ length l → made_bytes made n ≡ l → Writes w out out' at r
      whole n l e d same back = record {
        place = c.place ∙ ap (place_copied out at) d ∙ ap (λ m. if leb (at + m) (length out) then Ok (at + m) else Err 9) same
            ∙ sym (ap (place_written out at) e);
        bytes = c.bytes ∙ ap (bytes_copied out at made) d ∙ (λ i. if leb (at + same i) (length out) then sets out at (back i) else out)
            ∙ sym (ap (bytes_written out at) e);
      }

      go : (v : Written) → w ≡ v → (q : Result ℕ Refusal) → p ≡ q → Writes w out out' at r
      go (written l) e (Ok n) d =
          let place : Ok n ≡ place_after 0 (written l) = sym (ap numbered d) ∙ puts.place ∙ ap (place_after 0) e in
          let long : n ≡ 0 + length l = cc in
          let same : n ≡ length l = omega (arith, long) in
          whole n l e d same (ap (made_bytes made) same ∙ ap (λ m. made_bytes m (length l)) (puts.stored l e)
          ∙ stored_back zeros 0 l (omega (arith, short l e)))
      go (written l) e (Err k) d =
          let place : Err (refusal_number k) ≡ place_after 0 (written l) = sym (ap numbered d) ∙ puts.place ∙ ap (place_after 0) e in
          let z : ◌≡◌ {A = ℕ} 0 1 = cc in absurd (omega arith)
      go (unwritten k) e (Ok n) d =
          let place : Ok n ≡ place_after 0 (unwritten k) = sym (ap numbered d) ∙ puts.place ∙ ap (place_after 0) e in
          let z : ◌≡◌ {A = ℕ} 0 1 = cc in absurd (omega arith)
      go (unwritten k) e (Err j) d =
          let place : Err (refusal_number j) ≡ place_after 0 (unwritten k) = sym (ap numbered d) ∙ puts.place ∙ ap (place_after 0) e in
          record {
            place = c.place ∙ ap (place_copied out at) d ∙ place ∙ sym (ap (place_written out at) e);
            bytes = c.bytes
                ∙ ap (bytes_copied out at made) d ∙ sym (ap (bytes_written out at) e);
          }

-- ---- what a maker gives of bytes: their new contents, and the place after the record or the refusal
abbrev pub Maker : Type 1
Maker = List ℕ → Result ℕ Refusal → List ℕ → Type 0

abbrev pub Short : Maker → Type 0
Short gives = (zeros made : List ℕ) (place : Result ℕ Refusal) → gives zeros place made → (n : ℕ) → place ≡ Ok n → n ≤ 704

pub record Recorded (gives : Maker) (out out' : List ℕ) (at : ℕ) (r : Result ℕ Refusal) : Type 0 where
  pub zeros : List ℕ
  pub made : List ℕ
  pub place : Result ℕ Refusal
  pub long : length zeros ≡ 704
  pub gave : gives zeros place made
  pub copied : Copies out out' at made place r

pub recorded : {gives : Maker} {w : Written} {out out' : List ℕ} {at : ℕ} {r : Result ℕ Refusal} (m : Recorded gives out out' at r) →
    Puts w m.zeros m.made 0 m.place → ((l : List ℕ) → w ≡ written l → length l ≤ 704) → Writes w out out' at r
recorded m puts short = writes puts (λ l e. omega (arith, m.long, short l e)) m.copied

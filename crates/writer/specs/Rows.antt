-- So many of one form, one after the other: what was put before, and one more. A row may have something before it, as its count.
use Rattle.std.specs.Prelude.{◌≡◌, refl, List, [], ◌∷◌, ◌++◌, ℕ, zero, suc, ◌+◌, ◌-◌, ◌*◌, ◌<◌, ◌≤◌, get_or, length, Result, Ok, Err, IsErrAnd}
use Rattle.std.proofs.Common.{sym, ap, ◌∙◌, subst, add-zero, take, drop, drop-cons, length-take, add-one, arith}
use Rattle.std.proofs.lemmas.List.Edits.{sets}
use Rattle.std.proofs.Math.Seq.{take-length}
use Rattle.std.proofs.lemmas.List.{take_more, take-append-drop, at_drop_more}
use Rattle.rules.specs.Writer.{Written, written, unwritten, ◌then◌, all-written}
use Rattle.fields.specs.declared.refusal.Refusal.{Refusal}
use Rattle.condition.specs.From.{from, from_more}
use Rattle.rules.specs.Laws.Halves.{written_same}
use Rattle.writer.specs.Puts.{Puts, place_after, near, puts-stop, puts-stopped, puts_then, both-short, all_short}
use Rattle.writer.specs.Givens.{rows-all-short}
use Rattle.writer.specs.Events.{then-assoc, then-nil}

-- ---- out of slots: none is left, or one is put and then the rest, one fewer
module _ {A : Type 0} (w : A → Written) (f : ℕ → A) (first count : ℕ) where
  abbrev row : Written
  row = all-written w (from f count first)

  pub row-none : (out : List ℕ) (at : ℕ) → count ≡ 0 → Puts row out out at (Ok at)
  row-none out at e =
      let none : row ≡ written [] = ap (λ n. all-written w (from f n first)) e in
      record {
        place = ap Ok (sym (add-zero at))
            ∙ sym (ap (place_after at) none);
        stored = λ l d. ap (sets out at) (written_same (sym none ∙ d));
        long = refl;
      }

  module _ (some : count ≡ 0 → ⊥) where
    row_is : row ≡ (w (f first) then all-written w (from f (count - 1) (first + 1)))
    row_is =
        let e : count ≡ suc (count - 1) = omega (arith, some) in
        let d : suc first ≡ first + 1 = omega arith in
        ap (λ n. all-written w (from f n first)) e ∙ ap (λ p. w (f first) then all-written w (from f (count - 1) p)) d

    module _ {out mid : List ℕ} {at : ℕ} {r : Result ℕ Refusal} (one : Puts (w (f first)) out mid at r) where
      pub row-stop : {k : Refusal} → r ≡ Err k → Puts row out mid at r
      row-stop e = subst (λ v. Puts v out mid at r) (sym row_is) (puts-stop one (all-written w (from f (count - 1) (first + 1))) e)

      pub row_more : {next : ℕ} {out' : List ℕ} {s : Result ℕ Refusal} → r ≡ Ok next →
          Puts (all-written w (from f (count - 1) (first + 1))) mid out' next s → Puts row out out' at s
      row_more {out' = out'} {s} e more = subst (λ v. Puts v out out' at s) (sym row_is) (puts_then one e more)

-- ---- one after the other
nil-then : (v : Written) → v ≡ (written [] then v)
nil-then (written l) = refl
nil-then (unwritten k) = refl

-- nothing stands after u yet
pub after-none : (u : Written) {out mid : List ℕ} {at : ℕ} {r : Result ℕ Refusal} → Puts u out mid at r →
    Puts (u then written []) out mid at r
after-none u {out} {mid} {at} {r} q = subst (λ v. Puts v out mid at r) (sym (then-nil u)) q

pub from-append : {A : Type 0} (f : ℕ → A) (m n p : ℕ) → from f (m + n) p ≡ from f m p ++ from f n (p + m)
from-append f zero n p = let e : p ≡ p + 0 = omega arith in let d : 0 + n ≡ n = omega arith in ap (λ k. from f k p) d ∙ ap (from f n) e
from-append f (suc m) n p =
    let e : suc p + m ≡ p + suc m = omega arith in
    let d : suc m + n ≡ suc (m + n) = omega arith in
    ap (λ k. from f k p) d ∙ ap (λ l. f p ∷ l) (from-append f m n (suc p) ∙ ap (λ k. from f m (suc p) ++ from f n k) e)

module _ {A : Type 0} (w : A → Written) where
  pub all_append : (l m : List A) → all-written w (l ++ m) ≡ (all-written w l then all-written w m)
  all_append [] m = nil-then (all-written w m)
  all_append (a ∷ l) m = ap (λ v. w a then v) (all_append l m) ∙ sym (then-assoc (w a) (all-written w l) (all-written w m))

  all_last : (l : List A) (a : A) → all-written w (l ++ a ∷ []) ≡ (all-written w l then w a)
  all_last l a = all_append l (a ∷ []) ∙ ap (λ v. all-written w l then v) (then-nil (w a))

  -- ---- of a list, the first i of which were put: how far they reach, and one more
  pub list-near : (m : ℕ) → ((a : A) (b : List ℕ) → w a ≡ written b → length b ≤ m) → (l : List A) (i : ℕ) → i ≤ length l →
      {out mid : List ℕ} {at next : ℕ} → Puts (all-written w (take i l)) out mid at (Ok next) → next ≤ at + i * m
  list-near m short l i few before = let n : length (take i l) ≡ i = omega (arith, length-take i l, few) in
      near before (i * m) (λ b e. rw n at (all_short w m short (take i l) b e)) refl

  module _ (l : List A) (i : ℕ) (more : i < length l) {out mid : List ℕ} {at next : ℕ}
      (before : Puts (all-written w (take i l)) out mid at (Ok next)) (d : A) {out' : List ℕ} where
    pub list_more : {r : Result ℕ Refusal} → Puts (w (get_or l i d)) mid out' next r → Puts (all-written w (take (i + 1) l)) out out' at r
    list_more {r} one = subst (λ v. Puts v out out' at r)
        (sym (ap (all-written w) (take_more l i d more) ∙ all_last (take i l) (get_or l i d))) (puts_then before refl one)

    pub list-stop : {k : Refusal} {s : Result ℕ Refusal} → Puts (w (get_or l i d)) mid out' next (Err k) → IsErrAnd s (λ e. e ≡ k) →
        Puts (all-written w l) out out' at s
    list-stop {s = s} one q =
        let whole : l ≡ take i l ++ get_or l i d ∷ drop (i + 1) l = sym (take-append-drop i l)
        ∙ at_drop_more (λ m. take i l ++ m) l i d more in
        subst (λ v. Puts v out out' at s) (sym (ap (all-written w) whole ∙ all_append (take i l) (get_or l i d ∷ drop (i + 1) l)))
        (puts_then before refl (puts-stopped one (all-written w (drop (i + 1) l)) refl q))

  -- ---- of what stands from p on, the first i of which were put after u
  pub after-near : (j m : ℕ) (u : Written) (f : ℕ → A) → ((b : List ℕ) → u ≡ written b → length b ≤ j) →
      ((k : ℕ) (b : List ℕ) → w (f k) ≡ written b → length b ≤ m) → (p i : ℕ) → {out mid : List ℕ} {at next : ℕ} →
      Puts (u then all-written w (from f i p)) out mid at (Ok next) → next ≤ at + (j + i * m)
  after-near j m u f first short p i before =
      near before (j + i * m) (both-short j (i * m) u (all-written w (from f i p)) first (rows-all-short w m f short i p)) refl

  module _ (u : Written) (f : ℕ → A) (p i : ℕ) {out mid : List ℕ} {at next : ℕ}
      (before : Puts (u then all-written w (from f i p)) out mid at (Ok next)) {out' : List ℕ} {q : ℕ} (place : q ≡ p + i) where
    pub after_more : {r : Result ℕ Refusal} → Puts (w (f q)) mid out' next r → Puts (u then all-written w (from f (i + 1) p)) out out' at r
    after_more {r} one =
        let more : from f (i + 1) p ≡ from f i p ++ f q ∷ [] = ap (λ n. from f n p) (add-one i) ∙ from_more f i p
        ∙ ap (λ k. from f i p ++ f k ∷ []) (sym place) in
        subst (λ v. Puts v out out' at r)
        (then-assoc u (all-written w (from f i p)) (w (f q))
        ∙ ap (λ v. u then v) (sym (ap (all-written w) more ∙ all_last (from f i p) (f q)))) (puts_then before refl one)

    pub after-stop : {k : Refusal} {s : Result ℕ Refusal} (n : ℕ) → i < n → Puts (w (f q)) mid out' next (Err k) → IsErrAnd s (λ e. e ≡ k) →
        Puts (u then all-written w (from f n p)) out out' at s
    after-stop {s = s} n less one z =
        let rest = from f (n - (i + 1)) (suc (p + i)) in
        let count : n ≡ i + suc (n - (i + 1)) = omega (arith, less) in
        let whole : from f n p ≡ from f i p ++ f q ∷ rest = ap (λ m. from f m p) count ∙ from-append f i (suc (n - (i + 1))) p
        ∙ ap (λ k. from f i p ++ f k ∷ rest) (sym place) in
        subst (λ v. Puts v out out' at s)
        (then-assoc u (all-written w (from f i p)) (w (f q) then all-written w rest)
        ∙ ap (λ v. u then v) (sym (ap (all-written w) whole ∙ all_append (from f i p) (f q ∷ rest))))
        (puts_then before refl (puts-stopped one (all-written w rest) refl z))

  pub after-done : (u : Written) (f : ℕ → A) (p i n : ℕ) {out mid : List ℕ} {at next : ℕ} →
      Puts (u then all-written w (from f i p)) out mid at (Ok next) → n ≤ i → i ≤ n →
      Puts (u then all-written w (from f n p)) out mid at (Ok next)
  after-done u f p i n {out} {mid} {at} {next} before l h = let e : i ≡ n = omega arith in
      subst (λ k. Puts (u then all-written w (from f k p)) out mid at (Ok next)) e before

-- ---- a row that was lent as a part, or whole, by what stands in it
pub from_part : {A : Type 0} (d : A) (l : List A) (n p : ℕ) → p + n ≤ length l → take n (drop p l) ≡ from (λ k. get_or l k d) n p
from_part d l zero p h = refl
from_part d l (suc n) p h = ap (take (suc n)) (drop-cons l p d (omega (arith, h)))
    ∙ ap (λ m. get_or l p d ∷ m) (from_part d l n (suc p) (omega (arith, h)))

module _ {A : Type 0} (w : A → Written) (d : A) (l : List A) (n : ℕ) {out out' : List ℕ} {at : ℕ} {r : Result ℕ Refusal} where
  pub part_as : (p : ℕ) {m : ℕ} → m ≡ n → p + n ≤ length l → Puts (all-written w (take m (drop p l))) out out' at r →
      Puts (all-written w (from (λ k. get_or l k d) n p)) out out' at r
  part_as p e h q = subst (λ v. Puts (all-written w v) out out' at r) (ap (λ k. take k (drop p l)) e ∙ from_part d l n p h) q

  pub whole_as : length l ≡ n → Puts (all-written w l) out out' at r → Puts (all-written w (from (λ k. get_or l k d) n 0)) out out' at r
  whole_as e q = part_as 0 e (omega (arith, e)) (subst (λ v. Puts (all-written w v) out out' at r) (sym (take-length l)) q)

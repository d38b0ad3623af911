-- Text written into a buffer, byte by byte from a place on, and cut at the buffer's end: one text after another is their join.
use Rattle.std.specs.Prelude.{◌≡◌, refl, List, [], ◌∷◌, ◌++◌, ℕ, suc, ◌+◌, ◌<◌, ◌≤◌, min, ltb, length, get_or, take, drop, set, if◌then◌else◌}
use Rattle.std.proofs.Common.{sym, ap, ◌∙◌, append_assoc, add-one, arith, length-append, take-suc, take_all, lt-ltb, le-ltb}
use Rattle.std.proofs.Math.Seq.{set-append_seam, take-length}

-- a buffer, and the place after what was written
pub record Output : Type 0 where
  pub bytes : List ℕ
  pub place : ℕ

abbrev pub output : List ℕ → ℕ → Output
output bytes place = record { bytes = bytes; place = place }

-- a byte past the end is not written
abbrev pub put_byte : Output → ℕ → Output
put_byte o x = if ltb o.place (length o.bytes) then output (set o.bytes o.place x) (o.place + 1) else o

unfoldable pub puts : Output → List ℕ → Output
puts o [] = o
puts o (x ∷ text) = puts (put_byte o x) text

puts-append : (o : Output) (s t : List ℕ) → puts o (s ++ t) ≡ puts (puts o s) t
unfolding puts
puts-append o [] t = refl
puts-append o (x ∷ s) t = puts-append (put_byte o x) s t

-- what a function that writes a text says of the buffer and the place
pub record Writes (o q : Output) (text : List ℕ) : Type 0 where
  pub is : q ≡ puts o text

-- one text after another
infixr 5 ◌then◌
pub ◌then◌ : {o p q : Output} {s t : List ℕ} → Writes o p s → Writes p q t → Writes o q (s ++ t)
◌then◌ {o} {p} {q} {s} {t} d e = record { is = e.is ∙ ap (λ (w : Output). puts w t) d.is ∙ sym (puts-append o s t) }

pub writes : {o q : Output} {s t : List ℕ} → s ≡ t → Writes o q s → Writes o q t
writes {o} e w = record { is = w.is ∙ ap (puts o) e }

-- ---- the answers of `put`
put-within : (b : List ℕ) (at x : ℕ) → at < length b → output (set b at x) (at + 1) ≡ put_byte (output b at) x
put-within b at x h = rw (lt-ltb at (length b) h) refl

put-past : (b : List ℕ) (at x : ℕ) → length b ≤ at → output b at ≡ put_byte (output b at) x
put-past b at x h = rw (le-ltb at (length b) h) refl

pub byte-within : (b : List ℕ) (at x : ℕ) → at < length b → Writes (output b at) (output (set b at x) (at + 1)) (x ∷ [])
unfolding puts
byte-within b at x h = record { is = put-within b at x h }

pub byte_past : (b : List ℕ) (at x : ℕ) → length b ≤ at → Writes (output b at) (output b at) (x ∷ [])
unfolding puts
byte_past b at x h = record { is = put-past b at x h }

-- ---- a text byte by byte: what is written up to i
pub text-start : (o : Output) → Writes o o []
unfolding puts
text-start o = record { is = refl }

pub text-more : {o p q : Output} (text : List ℕ) (i : ℕ) → Writes o p (take i text) → i < length text → Writes p q (get_or text i 0 ∷ []) → Writes o q (take (i + 1) text)
text-more text i w h p = writes (rw (add-one i, take-suc text i 0 h) refl) (w then p)

pub text-done : {o q : Output} (text : List ℕ) (i : ℕ) → Writes o q (take i text) → length text ≤ i → Writes o q text
text-done text i w h = writes (take_all i text h) w

-- ---- a text into a whole buffer: cut at its end, and the places after the text keep what they had
abbrev pub filled : List ℕ → List ℕ → List ℕ
filled buffer text = take (length buffer) (text ++ drop (length text) buffer)

from-seam : (text p q : List ℕ) → puts (output (p ++ q) (length p)) text ≡ output (p ++ filled q text) (length p + min (length q) (length text))
unfolding puts
from-seam [] p q = λ i. output (p ++ sym (take-length q) i) (place i)
  where
    place : length p ≡ length p + min (length q) 0
    place = omega arith
from-seam (x ∷ text) p [] =
    ap (λ (o : Output). puts o text) (sym (put-past (p ++ []) (length p) x (omega (arith, length-append p [])))) ∙ from-seam text p [] ∙ ap (output (p ++ [])) (omega arith)
from-seam (x ∷ text) p (y ∷ q) =
    ap (λ (o : Output). puts o text) (sym (put-within (p ++ (y ∷ q)) (length p) x (omega (arith, length-append p (y ∷ q)))) ∙ moved) ∙ from-seam text (p ++ (x ∷ [])) q ∙ (λ i. output (append_assoc p (x ∷ []) (filled q text) i) (place i))
  where
    moved : output (set (p ++ (y ∷ q)) (length p) x) (length p + 1) ≡ output ((p ++ (x ∷ [])) ++ q) (length (p ++ (x ∷ [])))
    moved = λ i. output ((set-append_seam p y q x ∙ sym (append_assoc p (x ∷ []) q)) i) (sym (length-append p (x ∷ [])) i)

    place : length (p ++ (x ∷ [])) + min (length q) (length text) ≡ length p + min (suc (length q)) (suc (length text))
    place = omega (arith, length-append p (x ∷ []))

pub fills : {bytes : List ℕ} {place : ℕ} (buffer text : List ℕ) → Writes (output buffer 0) (output bytes place) text → (bytes ≡ filled buffer text) × (place ≡ min (length buffer) (length text))
fills buffer text w =
    let e = w.is ∙ from-seam text [] buffer in
    (ap (λ (o : Output). o.bytes) e, ap (λ (o : Output). o.place) e ∙ omega arith)

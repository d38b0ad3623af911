-- One byte more than a stream may have is enough to list it: the listing of the bytes that were read is that of all that the reader had.
use Rattle.std.proofs.Common.{◌≡◌, refl, sym, ap, ◌∙◌, subst, ℕ, ◌<◌, ◌≤◌, List, ◌++◌, length, take, drop, Result, Ok, Err, OnOk, IfSome, None, Some, arith, append-nil, length-append, lt-ltb, take_at}
use Rattle.std.specs.declared.option.Option.{Option}
use Rattle.std.specs.Io.KnownBytes.{Appends, Consumes, IsAtEnd}
use Rattle.rules.specs.Laws.Cases.{by_lt}
use Rattle.rules.specs.Limits.{stream_most}
use Rattle.rules.specs.Listing.{listing}

-- a stream that is too long is listed by its first bytes
long-listing : (bytes more : List ℕ) → stream_most < length bytes → listing bytes ≡ listing (bytes ++ more)
long-listing bytes more h =
    let now = lt-ltb stream_most (length bytes) h in
    let after = lt-ltb stream_most (length (bytes ++ more)) (omega (arith, h, length-append bytes more)) in
    rw (now, listing) (rw (after, listing) refl)

-- `had` is what the reader had, `bytes` what it gave, and `left` what it has left
pub listed-whole : (had left : Option (List ℕ)) (bytes : List ℕ) → Consumes had left bytes → (length bytes ≤ stream_most → IsAtEnd left) → IfSome had (λ all. listing bytes ≡ listing all)
listed-whole None left bytes read end = tt
listed-whole (Some all) None bytes read end = absurd read
listed-whole (Some all) (Some rest) bytes read end =
    by_lt stream_most (length bytes)
    (λ long. long-listing bytes rest long ∙ ap listing (sym read))
    (λ short. ap listing (sym (read ∙ ap (λ l. bytes ++ l) (end short) ∙ append-nil bytes)))

-- so what is written is the listing of all that the reader had
pub written-whole : {E : Type 0} (r : Result Unit E) (had old new : Option (List ℕ)) (text bytes : List ℕ) → text ≡ listing bytes
    → IfSome had (λ all. listing bytes ≡ listing all) → OnOk r (Appends old new text) → OnOk r (IfSome had (λ all. Appends old new (listing all)))
written-whole (Ok u) None old new text bytes same whole wrote = tt
written-whole (Ok u) (Some all) old new text bytes same whole wrote = subst (Appends old new) (same ∙ whole) wrote
written-whole (Err e) had old new text bytes same whole wrote = tt

-- the text at the front of the buffer, before what was there
pub text-in-front : (out text old : List ℕ) (n : ℕ) → out ≡ text ++ drop n old → n ≡ length text → take n out ≡ text
text-in-front out text old n is long = ap (take n) is ∙ take_at text (drop n old) n (sym long)

-- No listing is longer than 655,360 bytes: an event takes two bytes at least, and its line is 19 bytes at most.
use Rattle.std.specs.Prelude.{◌≡◌, refl, ◌⊎◌, Bool, true, false, List, [], ◌∷◌, ◌++◌, ℕ, zero, suc, ◌+◌, ◌*◌, ◌<◌, ◌≤◌, ◌/◌, ◌%◌, leb, ltb, length, take as front, drop}
use Rattle.std.proofs.Common.{sym, ap, ◌∙◌, subst, inl, inr, arith, length-append, length-drop, take_all, length-take-le, leb-false, ltb-false}
use Rattle.std.proofs.Math.Option.{Option, none, some}
use Rattle.rules.specs.Laws.Cases.{by_lt}
use Rattle.rules.specs.Limits.{stream_most}
use Rattle.rules.specs.Number.{Read, read, refused}
use Rattle.rules.specs.Room.{Room}
use Rattle.rules.specs.Record.{opening}
use Rattle.rules.specs.Step.{Outcome, done, enters, waits, on, back, Report, accepted, refusal, nothing}
use Rattle.rules.specs.Tally.{take}
use Rattle.rules.specs.Listing.{text, decimal, line, lines, reported, run, listing, ◌␣◌, job, outcome_word}
use Rattle.rules.specs.Laws.In.{by_bool}
use Rattle.rules.specs.Laws.Readers.{Took}
use Rattle.rules.specs.Laws.WellFormed.{sound-opening}
use Rattle.rules.specs.Demands.Answers.{Answers}
use Rattle.rules.proofs.Demands.Answers.{every-event-is-answered}
use Rattle.rules.specs.Demands.Invariant.{Invariant}
use Rattle.rules.proofs.Demands.Invariant.{opening-has}
use Rattle.rules.proofs.Demands.Reached.{take-keeps}
use Rattle.listing.specs.Decimal.{decimal-one, decimal-more}
use Rattle.listing.specs.Few.{Small, JobFew, take-small}
use Rattle.listing.specs.Streams.{by_length, Listed}

-- ---- numbers
one-digit : (n : ℕ) → n < 10 → length (decimal n) ≤ 1
one-digit n h = omega (arith, ap length (decimal-one n h))

-- below ten times as much, a digit more
digit-more : (k most : ℕ) → 1 ≤ k → ((n : ℕ) → n < most → length (decimal n) ≤ k) → (n : ℕ) → n < 10 * most → length (decimal n) ≤ k + 1
digit-more k most l h n b =
    by_lt n 10 (λ s. omega (arith, one-digit n s))
    (λ s. omega (arith, ap length (decimal-more n s), length-append (decimal (n / 10)) ((48 + n % 10) ∷ []), h (n / 10) (omega (arith, b))))

two_digits : (n : ℕ) → n < 100 → length (decimal n) ≤ 2
two_digits = digit-more 1 10 (omega arith) one-digit

three-digits : (n : ℕ) → n < 1000 → length (decimal n) ≤ 3
three-digits = digit-more 2 100 (omega arith) two_digits

five-digits : (n : ℕ) → n < 100000 → length (decimal n) ≤ 5
five-digits = digit-more 4 10000 (omega arith) (digit-more 3 1000 (omega arith) three-digits)

-- ---- lines
word-short : (o : Outcome) → length (outcome_word o) ≤ 5
word-short done = omega arith
word-short enters = omega arith
word-short waits = omega arith
word-short on = omega arith
word-short back = omega arith

job-short : (j : Option ℕ) → JobFew j → length (job j) ≤ 2
job-short none h = omega arith
job-short (some j) h = two_digits j (omega (arith, h))

accepted-length : (a b c d after : List ℕ) → length (line (a ␣ b ␣ c ␣ d) after) ≡ length a + length b + length c + length d + 4 + length after
accepted-length a b c d after = simp length-append (omega arith)

refused-length : (a b c after : List ℕ) → length (line (a ␣ b ␣ c) after) ≡ length a + length b + length c + 3 + length after
refused-length a b c after = simp length-append (omega arith)

end-length : (a b : List ℕ) → length (line (a ␣ b) []) ≡ length a + length b + 2
end-length a b = simp length-append (omega arith)

end_short : (before : ℕ) → before < 100000 → length (line (text "end" ␣ decimal before) []) ≤ 10
end_short before h = omega (arith, end-length (text "end") (decimal before), five-digits before h)

-- ---- the lines from an event on
two-less : {bytes rest : List ℕ} → Took 2 bytes rest → length rest + 2 ≤ length bytes
two-less {bytes} t = omega (arith, t.at_least, t.at_most, ap length t.left, length-drop t.count bytes)

module _ (n before : ℕ) (r q : Room) (bytes rest : List ℕ) (next : ℕ → ℕ → Room → List ℕ → List ℕ) where
  reported-short : n + length bytes ≤ 65537 → before < n → ((m k : ℕ) (s : Room) → length rest + 2 ≤ length bytes → m ≤ n + 1 → k < m → (s ≡ r) ⊎ (s ≡ q) → 2 * length (next m k s rest) ≤ 19 * length rest + 52) →
      (x : Report) → Small x → Answers r bytes q rest x → 2 * length (reported n before r q rest next x) ≤ 19 * length bytes + 52
  reported-short h b f (accepted o j count) s a =
      let l = two-less a in
      let g = f (suc n) (suc before) q l (omega arith) (omega arith) (inr refl) in
      omega (arith, accepted-length (decimal n) (outcome_word o) (job j) (decimal count) (next (suc n) (suc before) q rest), five-digits n (omega arith), word-short o, job-short j s.0, three-digits count (omega (arith, s.1)))
  reported-short h b f nothing s a = omega (arith, end_short before (omega arith))
  reported-short h b f (refusal k) s a = by_bool (leb k 4) (λ t. rw t last) (λ u. rw u (goes u a.1))
    where
      last : 2 * length (line (decimal n ␣ text "refused" ␣ decimal k) (line (text "end" ␣ decimal before) [])) ≤ 19 * length bytes + 52
      last = omega (arith, refused-length (decimal n) (text "refused") (decimal k) (line (text "end" ␣ decimal before) []), end_short before (omega arith), five-digits n (omega arith), one-digit k (omega (arith, s)))

      goes : leb k 4 ≡ false → ((1 ≤ k) × (k ≤ 4) × (rest ≡ bytes)) ⊎ ((5 ≤ k) × (k ≤ 7) × Took 2 bytes rest) → 2 * length (line (decimal n ␣ text "refused" ␣ decimal k) (next (suc n) before r rest)) ≤ 19 * length bytes + 52
      goes u (inl i) = absurd (omega (arith, leb-false k 4 u, i.1))
      goes u (inr i) =
          let l = two-less i.2 in
          let g = f (suc n) before r l (omega arith) (omega arith) (inl refl) in
          omega (arith, refused-length (decimal n) (text "refused") (decimal k) (next (suc n) before r rest), five-digits n (omega arith), one-digit k (omega (arith, s)))

lines-short : (most n before : ℕ) (r : Room) (bytes : List ℕ) → Invariant r → n + length bytes ≤ 65537 → before < n → 2 * length (lines most n before r bytes) ≤ 19 * length bytes + 52
lines-short zero n before r bytes i h b = omega arith
lines-short (suc most) n before r bytes i h b =
    let t = take r bytes in
    reported-short n before r t.result.room bytes t.rest (lines most) h b (λ m k s l u v w. lines-short most m k s t.rest (kept s w) (omega (arith, l, u, h)) v) t.result.report
    (take-small r i bytes) (every-event-is-answered r bytes)
  where
    kept : (s : Room) → (s ≡ r) ⊎ (s ≡ (take r bytes).result.room) → Invariant s
    kept s (inl e) = subst Invariant (sym e) i
    kept s (inr e) = subst Invariant (sym e) (take-keeps r bytes i)

-- ---- and the whole
run_short : (bytes : List ℕ) → length bytes ≤ 65536 → (x : Read Room) → opening bytes ≡ x → length (run x) ≤ 655360
run_short bytes h (read r rest) e =
    let o = sound-opening.gives bytes r rest e in
    let t = o.1 in
    let i = opening-has o.0 in
    let shorter : length rest + 1 ≤ length bytes = omega (arith, t.at_least, t.at_most, ap length t.left, length-drop t.count bytes) in
    omega (
      arith,
      length-append (text "open" ␣ decimal (length r.measures)) (10 ∷ lines (suc (length rest)) 1 0 r rest),
      two_digits (length r.measures) (omega (arith, i.measures.1)),
      lines-short (suc (length rest)) 1 0 r rest i (omega arith) (omega arith),
    )
run_short bytes h (refused n) e = omega (arith, length-append (text "open refused" ␣ decimal n) (10 ∷ []), one-digit n (omega (arith, (sound-opening.refuses bytes n e).1)))

length-by_length : (bytes : List ℕ) (long : Bool) → ltb stream_most (length bytes) ≡ long → length (by_length bytes long) ≤ 655360
length-by_length bytes true e = omega arith
length-by_length bytes false e = run_short bytes (ltb-false stream_most (length bytes) e) (opening bytes) refl

pub listing-short : (bytes : List ℕ) → length (listing bytes) ≤ 655360
listing-short bytes = length-by_length bytes (ltb stream_most (length bytes)) refl

-- ---- so a buffer of as many bytes holds it whole
-- n bytes stand at the front of these: the second part follows from the first, and is what lending them as `&bytes[..n]` asks
abbrev pub Front : ℕ → List ℕ → Type 0
Front n bytes = (n ≤ length bytes) × (n ≡ length (front n bytes))

pub listing-whole : {bytes : List ℕ} {place : ℕ} (buffer input : List ℕ) → length buffer ≡ 655360 → Listed buffer bytes place input →
    ((bytes ≡ listing input ++ drop place buffer) × (place ≡ length (listing input))) × Front place bytes
listing-whole {bytes} {place} buffer input h l =
    let s = listing-short input in
    let p : place ≡ length (listing input) = l.1 ∙ omega arith in
    let many : length (listing input ++ drop (length (listing input)) buffer) ≡ length buffer = omega (arith, length-append (listing input) (drop (length (listing input)) buffer), length-drop (length (listing input)) buffer) in
    let is : bytes ≡ listing input ++ drop (length (listing input)) buffer = l.0 ∙ take_all (length buffer) (listing input ++ drop (length (listing input)) buffer) (omega arith) in
    let fits : place ≤ length bytes = omega (arith, ap length is) in
    ((is ∙ ap (λ (n : ℕ). listing input ++ drop n buffer) (sym p), p), (fits, sym (length-take-le place bytes fits)))

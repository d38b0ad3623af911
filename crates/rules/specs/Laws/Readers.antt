-- What every reader of the rules promises: it takes at least so many bytes off the front and gives what is asked of its fields, or
-- refuses with 1 to 4. One law for each way of making a reader.
use Rattle.std.specs.Prelude.{◌≡◌, refl, Bool, true, false, ◌&&◌, List, [], ◌∷◌, ℕ, zero, suc, ◌+◌, ◌*◌, ◌-◌, ◌≤◌, ◌<◌, leb, ltb, length, drop, nat_abs}
use Rattle.std.proofs.Common.{sym, ap, ◌∙◌, subst, arith, length-drop, drop-drop, leb-true, ltb-true}
use Rattle.rules.specs.Number.{Read, read, refused, Reader, pure, only, after, ◌>>=◌, times, bad_group, groups, number, signed, field, below, signed_field}
use Rattle.rules.specs.Laws.In.{both}
use Rattle.rules.specs.Laws.Bounds.{Within, Each}

-- the rest is what is left after so many bytes of the front
pub record Took (least : ℕ) (bytes rest : List ℕ) : Type 0 where
  pub count : ℕ
  pub at_least : least ≤ count
  pub at_most : count ≤ length bytes
  pub left : rest ≡ drop count bytes

pub record SoundReader {A : Type 0} (least : ℕ) (P : A → Type 0) (p : Reader A) : Type 0 where
  pub gives : (bytes : List ℕ) (a : A) (rest : List ℕ) → p bytes ≡ read a rest → P a × Took least bytes rest
  pub refuses : (bytes : List ℕ) (n : ℕ) → p bytes ≡ refused n → (1 ≤ n) × (n ≤ 4)

-- ---- the two answers
pub read-refused : {A B : Type 0} {a : A} {rest : List ℕ} {n : ℕ} → read a rest ≡ refused n → B
read-refused e = let z : ◌≡◌ {A = ℕ} 0 1 = cc in absurd (omega arith)

pub read_same : {A : Type 0} {a b : A} {l m : List ℕ} → read a l ≡ read b m → (a ≡ b) × (l ≡ m)
read_same e = (cc, cc)

pub refused-same : {A : Type 0} {m n : ℕ} → ◌≡◌ {A = Read A} (refused m) (refused n) → m ≡ n
refused-same e = cc

took-none : (bytes rest : List ℕ) → bytes ≡ rest → Took 0 bytes rest
took-none bytes rest e = record { count = 0; at_least = omega arith; at_most = omega arith; left = sym e }

took_one : (b : ℕ) (bytes : List ℕ) → Took 1 (b ∷ bytes) bytes
took_one b bytes = record { count = 1; at_least = omega arith; at_most = omega arith; left = refl }

took-both : {k m : ℕ} {bytes mid rest : List ℕ} → Took k bytes mid → Took m mid rest → Took (k + m) bytes rest
took-both {bytes = bytes} {mid = mid} s t = record {
  count = s.count + t.count;
  at_least = omega (arith, s.at_least, t.at_least);
  at_most = omega (arith, s.at_most, t.at_most, ap length s.left, length-drop s.count bytes);
  left = t.left ∙ ap (drop t.count) s.left ∙ drop-drop t.count s.count bytes;
}

took-less : {k m : ℕ} {bytes rest : List ℕ} → k ≤ m → Took m bytes rest → Took k bytes rest
took-less l t = record { count = t.count; at_least = omega (arith, t.at_least); at_most = t.at_most; left = t.left }

module _ {A : Type 0} {P : A → Type 0} where
  pub sound-pure : (a : A) → P a → SoundReader 0 P (pure a)
  sound-pure a h = record {
    gives = λ bytes b rest e. let s = read_same e in (subst P s.0 h, took-none bytes rest s.1);
    refuses = λ bytes n e. read-refused e;
  }

  pub sound-only : (t : Bool) (n : ℕ) (a : A) → 1 ≤ n → n ≤ 4 → (t ≡ true → P a) → SoundReader 0 P (only t n a)
  sound-only true n a l h f = sound-pure a (f refl)
  sound-only false n a l h f = record {
    gives = λ bytes b rest e. read-refused (sym e);
    refuses = λ bytes m e. let s = refused-same e in (omega arith, omega arith);
  }

  pub sound-less : {Q : A → Type 0} {k m : ℕ} {p : Reader A} → k ≤ m → ((a : A) → P a → Q a) → SoundReader m P p → SoundReader k Q p
  sound-less l f s = record {
    gives = λ bytes a rest e. let g = s.gives bytes a rest e in (f a g.0, took-less l g.1);
    refuses = s.refuses;
  }

module _ {A B : Type 0} {P : A → Type 0} {Q : B → Type 0} {k m : ℕ} (p : Reader A) (f : A → Reader B) (s : SoundReader k P p) (t : (a : A) → P a → SoundReader m Q (f a)) where
  pub sound-then : SoundReader (k + m) Q (p >>= f)
  sound-then = record { gives = λ bytes. gives-from bytes (p bytes) refl; refuses = λ bytes. refuses-from bytes (p bytes) refl }
    where
      gives-from : (bytes : List ℕ) (x : Read A) → p bytes ≡ x → (b : B) (rest : List ℕ) → after x f ≡ read b rest → Q b × Took (k + m) bytes rest
      gives-from bytes (read a mid) d b rest e =
          let g = s.gives bytes a mid d in
          let h = (t a g.0).gives mid b rest e in
          (h.0, took-both g.1 h.1)
      gives-from bytes (refused n) d b rest e = read-refused (sym e)

      refuses-from : (bytes : List ℕ) (x : Read A) → p bytes ≡ x → (n : ℕ) → after x f ≡ refused n → (1 ≤ n) × (n ≤ 4)
      refuses-from bytes (read a mid) d n e = (t a (s.gives bytes a mid d).0).refuses mid n e
      refuses-from bytes (refused j) d n e = s.refuses bytes n (d ∙ ap refused (refused-same e))

pub sound-times : {A : Type 0} {P : A → Type 0} {k : ℕ} (p : Reader A) → SoundReader k P p → (n : ℕ) → SoundReader 0 (λ l. (length l ≡ n) × Each P l) (times n p)
sound-times p s zero = sound-pure [] (refl, tt)
sound-times p s (suc n) = sound-less (omega arith) (λ a h. h) (sound-then p _ s (λ a h. sound-then (times n p) _ (sound-times p s n) (λ l i. sound-pure (a ∷ l) (ap suc i.0, (h, i.1)))))

-- ---- numbers
abbrev Any : ℕ → Type 0
Any n = Unit {0}

-- what `SoundReader` says of one answer to these bytes
record Fine (bytes : List ℕ) (x : Read ℕ) : Type 0 where
  took : (n : ℕ) (rest : List ℕ) → x ≡ read n rest → Took 1 bytes rest
  refusal : (n : ℕ) → x ≡ refused n → (1 ≤ n) × (n ≤ 4)

fine-refused : (bytes : List ℕ) (k : ℕ) → 1 ≤ k → k ≤ 4 → Fine bytes (refused k)
fine-refused bytes k l h = record {
  took = λ n rest e. read-refused (sym e);
  refusal = λ n e. let s = refused-same e in (omega arith, omega arith);
}

fine-read : (bytes : List ℕ) (n : ℕ) (rest : List ℕ) → Took 1 bytes rest → Fine bytes (read n rest)
fine-read bytes n rest t = record {
  took = λ m left e. subst (Took 1 bytes) (read_same e).1 t;
  refusal = λ m e. read-refused e;
}

fine-group : (b : ℕ) (bytes : List ℕ) (t u : Bool) (x : Read ℕ) → Fine bytes x →
    Fine (b ∷ bytes) (elim t [ true ↦ refused 2 | false ↦ elim u [ true ↦ read b bytes | false ↦ after x (λ m. pure (b - 128 + 128 * m)) ] ])
fine-group b bytes true u x f = fine-refused (b ∷ bytes) 2 (omega arith) (omega arith)
fine-group b bytes false true x f = fine-read (b ∷ bytes) b bytes (took_one b bytes)
fine-group b bytes false false (read m rest) f = fine-read (b ∷ bytes) _ rest (took-less (omega arith) (took-both (took_one b bytes) (f.took m rest refl)))
fine-group b bytes false false (refused m) f = let r = f.refusal m refl in fine-refused (b ∷ bytes) m r.0 r.1

fine-groups : (bytes : List ℕ) (place : ℕ) → Fine bytes (groups place bytes)
fine-groups [] place = fine-refused [] 1 (omega arith) (omega arith)
fine-groups (b ∷ bytes) place = fine-group b bytes (bad_group place b) (ltb b 128) (groups (suc place) bytes) (fine-groups bytes (suc place))

pub sound-number : SoundReader 1 Any number
sound-number = record {
  gives = λ bytes n rest e. (tt, (fine-groups bytes 1).took n rest e);
  refuses = λ bytes n e. (fine-groups bytes 1).refusal n e;
}

-- ---- fields
pub sound-field : (refusal low high : ℕ) → 1 ≤ refusal → refusal ≤ 4 → SoundReader 1 (λ n. (low ≤ n) × (n ≤ high)) (field refusal low high)
sound-field refusal low high l h = sound-then number _ sound-number (λ n _. sound-only (leb low n && leb n high) refusal n l h
    (λ e. let b = both (leb low n) (leb n high) e in (leb-true low n b.0, leb-true n high b.1)))

pub sound-below : (bound : ℕ) → SoundReader 1 (λ n. n < bound) (below bound)
sound-below bound = sound-then number _ sound-number (λ n _. sound-only (ltb n bound) 4 n (omega arith) (omega arith) (λ e. ltb-true n bound e))

pub sound-signed : (most : ℕ) → SoundReader 1 (Within most) (signed_field most)
sound-signed most = sound-then number _ sound-number (λ n _. sound-only (leb (nat_abs (signed n)) most) 4 (signed n) (omega arith) (omega arith) (λ e. record { abs = leb-true (nat_abs (signed n)) most e }))

-- Reader and writer of one form are its two halves: what is written reads back, whatever follows, and what was read is written as it stood. One law for each
-- way of making the two.
use Rattle.std.specs.Prelude.{◌≡◌, refl, Bool, true, false, List, [], ◌∷◌, ◌++◌, ℕ, zero, suc, length, if◌then◌else◌}
use Rattle.std.proofs.Common.{sym, ap, ◌∙◌, subst, append_assoc, arith}
use Rattle.rules.specs.Number.{read, Reader, pure, after, ◌>>=◌, times}
use Rattle.rules.specs.Writer.{Written, written, unwritten, ◌then◌, all-written}
use Rattle.rules.specs.Laws.Bounds.{Each}
use Rattle.rules.specs.Laws.Readers.{read_same}
use Rattle.rules.specs.Laws.Groups.{Byte}
use Rattle.rules.specs.Laws.Groups.{after_read}

-- these bytes are what is written of a, and then the rest
pub record Stands {A : Type 0} (P : A → Type 0) (w : A → Written) (a : A) (bytes rest : List ℕ) : Type 0 where
  pub good : P a
  pub front : List ℕ
  pub writes : w a ≡ written front
  pub is : bytes ≡ front ++ rest

-- P: what has the form
pub record Halves {A : Type 0} (P : A → Type 0) (p : Reader A) (w : A → Written) : Type 0 where
  pub back : (a : A) → P a → (l : List ℕ) → w a ≡ written l → (rest : List ℕ) → p (l ++ rest) ≡ read a rest
  pub stood : (bytes : List ℕ) → Each Byte bytes → (a : A) (rest : List ℕ) → p bytes ≡ read a rest → Stands P w a bytes rest

-- ---- the two answers of a writer
pub written_same : {l m : List ℕ} → written l ≡ written m → l ≡ m
written_same e = cc

pub written-not : {B : Type 0} {l : List ℕ} {k : ℕ} → unwritten k ≡ written l → B
written-not e = let z : ◌≡◌ {A = ℕ} 0 1 = cc in absurd (omega arith)

-- what stands behind a test was written, so it passed
pub written-if : (t : Bool) (k : ℕ) (w : Written) {l : List ℕ} → (if t then w else unwritten k) ≡ written l → (t ≡ true) × (w ≡ written l)
written-if true k w e = (refl, e)
written-if false k w e = written-not e

pub both-written : (v w : Written) {l : List ℕ} → (v then w) ≡ written l → (m : List ℕ) × (n : List ℕ) × (v ≡ written m) × (w ≡ written n) × (m ++ n ≡ l)
both-written (written m) (written n) e = (m, n, refl, refl, written_same e)
both-written (written m) (unwritten k) e = written-not e
both-written (unwritten k) w e = written-not e

each_after : {A : Type 0} (P : A → Type 0) (l m : List A) → Each P (l ++ m) → Each P m
each_after P [] m h = h
each_after P (a ∷ l) m h = each_after P l m h.1

pub halves-same : {A : Type 0} {P Q : A → Type 0} {p : Reader A} {w : A → Written} → ((a : A) → P a → Q a) → ((a : A) → Q a → P a) → Halves P p w → Halves Q p w
halves-same f g h = record {
  back = λ a q. h.back a (g a q);
  stood = λ bytes each a rest d. let s = h.stood bytes each a rest d in record { good = f a s.good; front = s.front; writes = s.writes; is = s.is };
}

-- what is written at all has the form
pub halves-any : {A : Type 0} {P : A → Type 0} {p : Reader A} {w : A → Written} → ((a : A) (l : List ℕ) → w a ≡ written l → P a) → Halves P p w → Halves (λ a. Unit {0}) p w
halves-any f h = record {
  back = λ a q l e. h.back a (f a l e) l e;
  stood = λ bytes each a rest d. let s = h.stood bytes each a rest d in record { good = tt; front = s.front; writes = s.writes; is = s.is };
}

-- another writer that writes the same
pub halves-writer : {A : Type 0} {P : A → Type 0} {p : Reader A} {v w : A → Written} → ((a : A) → P a → w a ≡ v a) → Halves P p v → Halves P p w
halves-writer f h = record {
  back = λ a q l e. h.back a q l (sym (f a q) ∙ e);
  stood = λ bytes each a rest d. let s = h.stood bytes each a rest d in record { good = s.good; front = s.front; writes = f a s.good ∙ s.writes; is = s.is };
}

-- ---- one after the other
pub halves-pure : {A : Type 0} (a : A) → Halves (λ b. b ≡ a) (pure a) (λ b. written [])
halves-pure a = record {
  back = λ b h l e rest. (λ i. read (sym h i) (sym (written_same e) i ++ rest));
  stood = λ bytes each b rest d. let s = read_same d in record { good = sym s.0; front = []; writes = refl; is = s.1 };
}

module _ {A B : Type 0} {P : A → Type 0} {Q : B → Type 0} (get : B → A) (p : Reader A) (w : A → Written) (f : A → Reader B) (v : B → Written)
    (fits : (b : B) → Q b → P (get b)) (one : Halves P p w) (more : (a : A) → P a → Halves (λ b. Q b × (get b ≡ a)) (f a) v) where
  pub halves-then : Halves Q (p >>= f) (λ b. w (get b) then v b)
  halves-then = record { back = back-both; stood = stood-both }
    where
      back-both : (b : B) → Q b → (l : List ℕ) → (w (get b) then v b) ≡ written l → (rest : List ℕ) → after (p (l ++ rest)) f ≡ read b rest
      back-both b q l e rest =
          let s = both-written (w (get b)) (v b) e in
          let at : l ++ rest ≡ s.0 ++ (s.1 ++ rest) = ap (λ m. m ++ rest) (sym s.4) ∙ append_assoc s.0 s.1 rest in
          ap (λ m. after (p m) f) at ∙ ap (λ x. after x f) (one.back (get b) (fits b q) s.0 s.2 (s.1 ++ rest)) ∙ (more (get b) (fits b q)).back b (q, refl) s.1 s.3 rest

      stood-both : (bytes : List ℕ) → Each Byte bytes → (b : B) (rest : List ℕ) → after (p bytes) f ≡ read b rest → Stands Q (λ b. w (get b) then v b) b bytes rest
      stood-both bytes each b rest d =
          let r = after_read (p bytes) f d in
          let s = one.stood bytes each r.0 r.1 r.2 in
          let t = (more r.0 s.good).stood r.1 (each_after Byte s.front r.1 (subst (Each Byte) s.is each)) b rest r.3 in
          record {
            good = t.good.0;
            front = s.front ++ t.front;
            writes = (λ i. w (t.good.1 i) then v b) ∙ (λ i. s.writes i then t.writes i);
            is = s.is ∙ ap (λ m. s.front ++ m) t.is ∙ sym (append_assoc s.front t.front rest);
          }

-- the last field of a record: g makes the record
pub halves-last : {A B : Type 0} {P : A → Type 0} {Q : B → Type 0} (get : B → A) (g : A → B) (p : Reader A) (w : A → Written) → ((b : B) → Q b → P (get b)) → ((b : B) → Q b → g (get b) ≡ b) →
    ((a : A) → P a → Q (g a) × (get (g a) ≡ a)) → Halves P p w → Halves Q (p >>= λ a. pure (g a)) (λ b. w (get b))
halves-last {Q = Q} get g p w fits made makes h = record {
  back = λ b q l e rest. ap (λ x. after x (λ a. pure (g a))) (h.back (get b) (fits b q) l e rest) ∙ ap (λ c. read c rest) (made b q);
  stood = λ bytes each b rest d.
      let r = after_read (p bytes) (λ a. pure (g a)) d in
      let s = h.stood bytes each r.0 r.1 r.2 in
      let m = makes r.0 s.good in
      let u = read_same r.3 in
      record {
        good = subst Q u.0 m.0;
        front = s.front;
        writes = ap w (ap get (sym u.0) ∙ m.1) ∙ s.writes;
        is = s.is ∙ ap (λ k. s.front ++ k) u.1;
      };
}

-- ---- so many of one form
abbrev pub Many : {A : Type 0} → (A → Type 0) → ℕ → List A → Type 0
Many P n l = (length l ≡ n) × Each P l

module _ {A : Type 0} {P : A → Type 0} (p : Reader A) (w : A → Written) (h : Halves P p w) where
  many-back : (n : ℕ) (l : List A) → Many P n l → (m : List ℕ) → all-written w l ≡ written m → (rest : List ℕ) → times n p (m ++ rest) ≡ read l rest
  many-back zero [] g m e rest = ap (λ k. read [] (k ++ rest)) (sym (written_same e))
  many-back zero (a ∷ l) g m e rest = absurd (omega (arith, g.0))
  many-back (suc n) [] g m e rest = absurd (omega (arith, g.0))
  many-back (suc n) (a ∷ l) g m e rest =
      let s = both-written (w a) (all-written w l) e in
      let at : m ++ rest ≡ s.0 ++ (s.1 ++ rest) = ap (λ k. k ++ rest) (sym s.4) ∙ append_assoc s.0 s.1 rest in
      let first = h.back a g.1.0 s.0 s.2 (s.1 ++ rest) in
      let others = many-back n l (omega (arith, g.0), g.1.1) s.1 s.3 rest in
      ap (times (suc n) p) at ∙ ap (λ x. after x (λ b bytes. after (times n p bytes) (λ k. pure (b ∷ k)))) first ∙ ap (λ x. after x (λ k. pure (a ∷ k))) others

  many-stood : (n : ℕ) (bytes : List ℕ) → Each Byte bytes → (l : List A) (rest : List ℕ) → times n p bytes ≡ read l rest → Stands (Many P n) (all-written w) l bytes rest
  many-stood zero bytes each l rest d =
      let s = read_same d in
      record { good = subst (Many P 0) s.0 (refl, tt); front = []; writes = ap (all-written w) (sym s.0); is = s.1 }
  many-stood (suc n) bytes each l rest d =
      let r = after_read (p bytes) (λ b left. after (times n p left) (λ k. pure (b ∷ k))) d in
      let q = after_read (times n p r.1) (λ k. pure (r.0 ∷ k)) r.3 in
      let s = h.stood bytes each r.0 r.1 r.2 in
      let t = many-stood n r.1 (each_after Byte s.front r.1 (subst (Each Byte) s.is each)) q.0 q.1 q.2 in
      let u = read_same q.3 in
      record {
        good = subst (Many P (suc n)) u.0 (ap suc t.good.0, (s.good, t.good.1));
        front = s.front ++ t.front;
        writes = ap (all-written w) (sym u.0) ∙ (λ i. s.writes i then t.writes i);
        is = s.is ∙ ap (λ m. s.front ++ m) (t.is ∙ ap (λ m. t.front ++ m) u.1) ∙ sym (append_assoc s.front t.front rest);
      }

  pub halves-times : (n : ℕ) → Halves (Many P n) (times n p) (all-written w)
  halves-times n = record { back = many-back n; stood = many-stood n }

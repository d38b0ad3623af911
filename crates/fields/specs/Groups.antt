-- Reading a number group by group is the rules' `groups`: the first byte decides, or the groups after it do. How large such a number can be.
use Rattle.std.specs.Prelude.{◌≡◌, refl, Bool, true, false, List, [], ◌∷◌, ℕ, zero, suc, ◌+◌, ◌*◌, ◌-◌, ◌<◌, ◌≤◌, eqb, get_or, drop}
use Rattle.std.specs.Prelude.{length, Result, Ok, Err}
use Rattle.std.proofs.Common.{sym, ap, ◌∙◌, add-one, arith, lt-ltb, le-ltb, le-leb, eq-eqb, ne_eqb, length-drop, drop_of_length-le, drop-cons}
use Rattle.std.proofs.Math.Decide.{ℕ_discrete, dec_lt}
use Rattle.std.proofs.lemmas.Bool.{lt-leb}
use Rattle.rules.specs.Laws.In.{true-not-false}
use Rattle.rules.specs.Number.{Read, read, refused, bad_group, groups, pure, after}
use Rattle.fields.specs.Answers.{place_of, as_answer, numbered}
use Rattle.fields.specs.Refusals.{refusal_number}
use Rattle.fields.specs.declared.refusal.Refusal.{Refusal}

-- ---- the test of a group
module _ (place b : ℕ) where
  pub bad-high : place ≡ 5 → 16 ≤ b → true ≡ bad_group place b
  bad-high e h = rw (eq-eqb place 5 e, le-leb 16 b h)

  pub bad-fifth : place ≡ 5 → b < 16 → eqb b 0 ≡ bad_group place b
  bad-fifth e h = rw (eq-eqb place 5 e, lt-leb 16 b h, lt-ltb 1 place (omega arith))

  pub bad-later : (place ≡ 5 → ⊥) → 1 < place → eqb b 0 ≡ bad_group place b
  bad-later n h = rw (ne_eqb place 5 n, lt-ltb 1 place h)

  pub bad-first : (place ≡ 5 → ⊥) → place ≤ 1 → false ≡ bad_group place b
  bad-first n h = rw (ne_eqb place 5 n, le-ltb 1 place h)

  -- a byte of 128 or more that is not bad is no fifth byte
  pub not-fifth : {t : Bool} → t ≡ bad_group place b → t ≡ false → place ≤ 5 → 128 ≤ b → place < 5
  not-fifth e f l h = go (ℕ_discrete place 5)
    where
      go : Dec (place ≡ 5) → place < 5
      go (yes q) = absurd (true-not-false (sym (bad-high q (omega arith))) (sym e ∙ f))
      go (no q) = omega (arith, q)

-- ---- how large: below 16 for the fifth place, and 128 times as much for each place before it
abbrev pub groups_most : ℕ → ℕ
groups_most place = get_or (0 ∷ 4_294_967_296 ∷ 33_554_432 ∷ 262_144 ∷ 2_048 ∷ 16 ∷ []) place 0

abbrev pub Bounded : ℕ → Result (ℕ × ℕ) Refusal → Type 0
Bounded place (Ok p) = p.0 < groups_most place
Bounded place (Err e) = Unit {0}

pub got-bounded : (place : ℕ) {r : Result (ℕ × ℕ) Refusal} {p : ℕ × ℕ} → r ≡ Ok p → Bounded place r → p.0 < groups_most place
got-bounded place e h = rw e at h

pub refused-bounded : (place : ℕ) {r : Result (ℕ × ℕ) Refusal} {e : Refusal} → r ≡ Err e → Bounded place r
refused-bounded place q = rw q tt

pub most_step : (place : ℕ) → 1 ≤ place → place < 5 → groups_most place ≡ 128 * groups_most (place + 1)
most_step zero l h = absurd (omega arith)
most_step (suc zero) l h = refl
most_step (suc (suc zero)) l h = refl
most_step (suc (suc (suc zero))) l h = refl
most_step (suc (suc (suc (suc zero)))) l h = refl
most_step (suc (suc (suc (suc (suc n))))) l h = absurd (omega arith)

pub most-most : (place : ℕ) → 1 ≤ place → place < 5 → groups_most (place + 1) ≤ 33_554_432
most-most zero l h = absurd (omega arith)
most-most (suc zero) l h = omega arith
most-most (suc (suc zero)) l h = omega arith
most-most (suc (suc (suc zero))) l h = omega arith
most-most (suc (suc (suc (suc zero)))) l h = omega arith
most-most (suc (suc (suc (suc (suc n))))) l h = absurd (omega arith)

most-last : (place b : ℕ) → 1 ≤ place → place ≤ 5 → b < 128 → (place ≡ 5 → b < 16) → b < groups_most place
most-last zero b l h k f = absurd (omega arith)
most-last (suc zero) b l h k f = omega arith
most-last (suc (suc zero)) b l h k f = omega arith
most-last (suc (suc (suc zero))) b l h k f = omega arith
most-last (suc (suc (suc (suc zero)))) b l h k f = omega arith
most-last (suc (suc (suc (suc (suc zero))))) b l h k f = f refl
most-last (suc (suc (suc (suc (suc (suc n)))))) b l h k f = absurd (omega arith)

-- ---- one byte of the number, as the code has it: b is the byte at this place
module _ (bytes : List ℕ) (at place : ℕ) where
  pub groups-ended : length bytes ≤ at → Err 1 ≡ as_answer bytes (groups place (drop at bytes))
  groups-ended h = rw (drop_of_length-le bytes h)

  module _ {b : ℕ} {t : Bool} (in_bytes : at < length bytes) (byte : b ≡ get_or bytes at 0) (test : t ≡ bad_group place b) where
    -- the bytes from here on
    here : drop at bytes ≡ b ∷ drop (suc at) bytes
    here = drop-cons bytes at 0 in_bytes ∙ ap (λ x. x ∷ drop (suc at) bytes) (sym byte)

    after-place : place_of bytes (drop (suc at) bytes) ≡ at + 1
    after-place = rw (length-drop (suc at) bytes) (omega arith)

    pub groups-bad : t ≡ true → Err 2 ≡ as_answer bytes (groups place (drop at bytes))
    groups-bad e = rw (here, sym test ∙ e, groups)

    module _ (good : t ≡ false) where
      pub groups-last : b < 128 → Ok (b, at + 1) ≡ as_answer bytes (groups place (drop at bytes))
      groups-last h = rw (here, sym test ∙ good, lt-ltb b 128 h, groups, after-place)

      pub last-bounded : 1 ≤ place → place ≤ 5 → b < 128 → b < groups_most place
      last-bounded l k h = most-last place b l k h (λ q. go q (dec_lt b 16))
        where
          go : place ≡ 5 → Dec (b < 16) → b < 16
          go q (yes d) = d
          go q (no d) = absurd (true-not-false (sym (bad-high place b q (omega (arith, d)))) (sym test ∙ good))

      module _ {higher : Result (ℕ × ℕ) Refusal} (from : numbered higher ≡ as_answer bytes (groups (place + 1) (drop (at + 1) bytes)))
          (large : 128 ≤ b) where
        pub groups-more : (p : ℕ × ℕ) → higher ≡ Ok p → Ok (b - 128 + 128 * p.0, p.1) ≡ as_answer bytes (groups place (drop at bytes))
        groups-more p e = rw (here, sym test ∙ good, le-ltb b 128 large, groups)
            (go (groups (suc place) (drop (suc at) bytes)) (sym (ap numbered e) ∙ from'))
          where
            from' : numbered higher ≡ as_answer bytes (groups (suc place) (drop (suc at) bytes))
            from' = rw (add-one at, add-one place) at from

            go : (x : Read ℕ) → Ok p ≡ as_answer bytes x →
                Ok (b - 128 + 128 * p.0, p.1) ≡ as_answer bytes (after x (λ m. pure (b - 128 + 128 * m)))
            go (read m rest) q = let s : p ≡ (m, place_of bytes rest) = cc in rw s refl
            go (refused k) q = let z : ◌≡◌ {A = ℕ} 0 1 = cc in absurd (omega arith)

        pub groups-refused : (e : Refusal) → higher ≡ Err e → Err (refusal_number e) ≡ as_answer bytes (groups place (drop at bytes))
        groups-refused e h = rw (here, sym test ∙ good, le-ltb b 128 large, groups)
            (go (groups (suc place) (drop (suc at) bytes)) (sym (ap numbered h) ∙ from'))
          where
            from' : numbered higher ≡ as_answer bytes (groups (suc place) (drop (suc at) bytes))
            from' = rw (add-one at, add-one place) at from

            go : (x : Read ℕ) → Err (refusal_number e) ≡ as_answer bytes x →
                Err (refusal_number e) ≡ as_answer bytes (after x (λ m. pure (b - 128 + 128 * m)))
            go (read m rest) q = let z : ◌≡◌ {A = ℕ} 0 1 = cc in absurd (omega arith)
            go (refused m) q = q

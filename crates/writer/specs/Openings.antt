-- An opening's coefficients stand in one row, measure after measure; written number by number they are the rules' rows.
use Rattle.std.specs.Prelude.{◌≡◌, refl, List, ◌++◌, ℕ, zero, suc, ◌+◌, ◌*◌, ℤ, pos, get_or, Result}
use Rattle.std.proofs.Common.{sym, ap, ◌∙◌, subst, suc-mul, arith}
use Rattle.rules.specs.Writer.{Written, ◌then◌, all-written, write_field, write_coefficient, write_value, write_opening}
use Rattle.condition.specs.From.{from, from-many}
use Rattle.writer.specs.Rows.{from-append, all_append}
use Rattle.writer.specs.Puts.{Puts}
use Rattle.fields.specs.declared.refusal.Refusal.{Refusal}

-- the coefficients of measure m stand from slot 8 * m on
abbrev pub row_given : List ℤ → ℕ → List ℤ
row_given coefficients m = from (λ k. get_or coefficients k (pos 0)) 8 (m * 8)

abbrev pub values_given : List ℤ → List ℤ
values_given values = from (λ k. get_or values k (pos 0)) 8 0

module _ {A : Type 0} (w : A → Written) where
  -- n rows of eight, from row p on
  rows-flat : (f : ℕ → A) (n p : ℕ) →
      all-written w (from f (n * 8) (p * 8)) ≡ all-written (all-written w) (from (λ m. from f 8 (m * 8)) n p)
  rows-flat f zero p = refl
  rows-flat f (suc n) p =
      let e : suc n * 8 ≡ 8 + n * 8 = omega (arith, suc-mul n 8) in
      let d : p * 8 + 8 ≡ suc p * 8 = omega (arith, suc-mul p 8) in
      ap (λ k. all-written w (from f k (p * 8))) e
      ∙ ap (all-written w) (from-append f 8 (n * 8) (p * 8) ∙ ap (λ k. from f 8 (p * 8) ++ from f (n * 8) k) d)
      ∙ all_append w (from f 8 (p * 8)) (from f (n * 8) (suc p * 8))
      ∙ ap (λ v. all-written w (from f 8 (p * 8)) then v) (rows-flat f n (suc p))

-- the whole, as the code puts it
pub opening-put : (coefficients values : List ℤ) (n : ℕ) {out out' : List ℕ} {r : Result ℕ Refusal} →
    Puts (write_field 4 1 16 n then all-written write_coefficient
    (from (λ k. get_or coefficients k (pos 0)) (n * 8) 0) then all-written write_value (values_given values)) out out' 0 r →
    Puts (write_opening (from (row_given coefficients) n 0) (values_given values)) out out' 0 r
opening-put coefficients values n {out} {out'} {r} p =
    subst (λ k. Puts (write_field 4 1 16 k then all-written (all-written write_coefficient)
    (from (row_given coefficients) n 0) then all-written write_value (values_given values)) out out' 0 r)
    (sym (from-many (row_given coefficients) n 0))
    (subst (λ v. Puts (write_field 4 1 16 n then v then all-written write_value (values_given values)) out out' 0 r)
    (rows-flat write_coefficient (λ k. get_or coefficients k (pos 0)) n 0) p)

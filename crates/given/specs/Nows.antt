-- The values of the measures, read off the slots, are the rules': a measure's slots hold its coefficients, and where there is no measure
-- every coefficient is 0, so both give 0.
use Rattle.std.specs.Prelude.{◌≡◌, refl, List, [], map, ℕ, zero, suc, ◌+◌, ◌*◌, ◌<◌, ◌≤◌, ℤ, pos, ◌*ℤ◌, get_or, length}
use Rattle.std.proofs.Common.{sym, ap, ◌∙◌, zero-add, arith}
use Rattle.std.proofs.Math.Decide.{dec_lt}
use Rattle.std.proofs.Math.IntN.{zero-*ℤ}
use Rattle.std.proofs.Math.ListN.{get_or-eq_default, get_or-map}
use Rattle.rules.specs.Room.{measured}
use Rattle.integers.specs.Sums.{sum}
use Rattle.condition.specs.Measures.{now_at, term, now-at, now-past}
use Rattle.condition.specs.From.{from, from-get, from-many}
use Rattle.condition.specs.Closes.{products-sum}

sum-none : (f : ℕ → ℤ) (n : ℕ) → ((k : ℕ) → f k ≡ pos 0) → sum f n ≡ pos 0
unfolding sum
sum-none f zero h = refl
sum-none f (suc n) h = rw (sum-none f n h, h n)

module _ (coefficients values : List ℤ) where
  -- the coefficients of a measure, and those of the first n
  abbrev pub row_at : ℕ → List ℤ
  row_at j = from (λ k. get_or coefficients k (pos 0)) 8 (j * 8)

  abbrev pub rows_of : ℕ → List (List ℤ)
  rows_of n = from row_at n 0

  module _ (eight : length values ≡ 8) (n : ℕ) (few : n ≤ 16) (none : (k : ℕ) → n * 8 ≤ k → get_or coefficients k (pos 0) ≡ pos 0) where
    pub now-same : (m : ℕ) → get_or (now_at coefficients values) m (pos 0) ≡ get_or (map (measured values) (rows_of n)) m (pos 0)
    now-same m = go (dec_lt m n) (dec_lt m 16) ∙ sym (get_or-map (measured values) (rows_of n) m [])
      where
        go : Dec (m < n) → Dec (m < 16) → get_or (now_at coefficients values) m (pos 0) ≡ measured values (get_or (rows_of n) m [])
        go (yes h) d =
            now-at coefficients values m (omega arith) ∙ sym (products-sum 8 (λ k. get_or coefficients k (pos 0)) (m * 8) values eight)
            ∙ ap (λ j. measured values (row_at j)) (sym (zero-add m)) ∙ ap (measured values) (sym (from-get [] row_at n 0 m h))
        go (no h) (yes l) =
            now-at coefficients values m l
            ∙ sum-none (term coefficients (m * 8) values) 8 (λ k. ap (λ z. z *ℤ get_or values k (pos 0)) (none (m * 8 + k) (omega (arith, h))) ∙ zero-*ℤ (get_or values k (pos 0)))
            ∙ ap (measured values) (sym (get_or-eq_default (rows_of n) [] (rw (from-many row_at n 0) (omega (arith, h)))))
        go (no h) (no l) =
            sym (now-past coefficients values m (omega (arith, l)))
            ∙ ap (measured values) (sym (get_or-eq_default (rows_of n) [] (rw (from-many row_at n 0) (omega (arith, h)))))

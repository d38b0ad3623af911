-- A part that is put back changes its own places and no others.
use Rattle.std.specs.Prelude.{◌≡◌, refl, List, ◌++◌, ℕ, ◌+◌, ◌*◌, ◌-◌, ◌<◌, ◌≤◌, get_or, length, take, drop}
use Rattle.std.proofs.Common.{sym, ap, ◌∙◌, arith, length-append, length-drop, length-take-le, take_at, drop_at, get_or-take, get_or-drop, get_or-append-add, ext_get_or}
use Rattle.std.proofs.Math.ListN.{get_or-append}
use Rattle.rules.specs.Laws.Cases.{by_lt}

-- the places of home g
abbrev pub region : List ℕ → ℕ → List ℕ
region l g = take 128 (drop (g * 128) l)

-- l with p at the places from a, where p was lent k places
abbrev pub put_back : List ℕ → ℕ → ℕ → List ℕ → List ℕ
put_back l a k p = take a l ++ (p ++ drop k (drop a l))

module _ (l p : List ℕ) (a k : ℕ) (fits : a + k ≤ length l) (same : length p ≡ k) where
  front : length (take a l) ≡ a
  front = length-take-le a l (omega arith)

  pub back_long : length (put_back l a k p) ≡ length l
  back_long = omega (arith, length-append (take a l) (p ++ drop k (drop a l)), length-append p (drop k (drop a l)), front, length-drop k (drop a l), length-drop a l)

  pub back-here : take k (drop a (put_back l a k p)) ≡ p
  back-here = ap (take k) (drop_at (take a l) (p ++ drop k (drop a l)) a front) ∙ take_at p (drop k (drop a l)) k same

  pub back_below : (j : ℕ) → j < a → get_or (put_back l a k p) j 0 ≡ get_or l j 0
  back_below j h = get_or-append (take a l) (p ++ drop k (drop a l)) 0 j (omega (arith, front)) ∙ get_or-take a l j 0 h

  pub back-past : (j : ℕ) → a + k ≤ j → get_or (put_back l a k p) j 0 ≡ get_or l j 0
  back-past j h =
      let d = j - (a + k) in
      let i : j ≡ length (take a l) + (length p + d) = omega (arith, front) in
      let i' : k + d ≡ length p + d = omega arith in
      let i'' : a + (k + d) ≡ j = omega arith in
      ap (λ (u : ℕ). get_or (put_back l a k p) u 0) i
      ∙ get_or-append-add (take a l) (p ++ drop k (drop a l)) (length p + d) 0
      ∙ get_or-append-add p (drop k (drop a l)) d 0
      ∙ get_or-drop k (drop a l) d 0
      ∙ get_or-drop a l (k + d) 0
      ∙ ap (λ (u : ℕ). get_or l u 0) i''

-- home g put back: it is what was put, and every other is what it was
module _ (l p : List ℕ) (g : ℕ) (fits : length l ≡ 4352) (one : g < 34) (same : length p ≡ 128) where
  pub region-here : region (put_back l (g * 128) 128 p) g ≡ p
  region-here = back-here l p (g * 128) 128 (omega arith) same

  pub region-other : (h : ℕ) → h < 34 → (h ≡ g → ⊥) → region (put_back l (g * 128) 128 p) h ≡ region l h
  region-other h q d =
      let m = put_back l (g * 128) 128 p in
      let long : length m ≡ length l = back_long l p (g * 128) 128 (omega arith) same in
      let size : (n : List ℕ) → length n ≡ length l → length (region n h) ≡ 128 = λ n e. length-take-le 128 (drop (h * 128) n) (omega (arith, length-drop (h * 128) n)) in
      ext_get_or 0 (region m h) (region l h) (size m long ∙ sym (size l refl))
      (λ i r. let b : i < 128 = omega (arith, size m long) in
      get_or-take 128 (drop (h * 128) m) i 0 b ∙ get_or-drop (h * 128) m i 0
      ∙ by_lt h g (λ z. back_below l p (g * 128) 128 (omega arith) same (h * 128 + i) (omega arith)) (λ z. back-past l p (g * 128) 128 (omega arith) same (h * 128 + i) (omega arith))
      ∙ sym (get_or-take 128 (drop (h * 128) l) i 0 b ∙ get_or-drop (h * 128) l i 0))

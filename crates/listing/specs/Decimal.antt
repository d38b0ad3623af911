-- Decimal digits: those of a tenth, and then the last one.
use Rattle.std.specs.Prelude.{◌≡◌, refl, Bool, true, false, List, [], ◌∷◌, ◌++◌, ℕ, zero, suc, ◌+◌, ◌<◌, ◌≤◌, ◌/◌, ◌%◌}
use Rattle.std.proofs.Common.{sym, ap, ◌∙◌, append_assoc, arith, lt-ltb, le-ltb}
use Rattle.rules.specs.Laws.Cases.{by_lt}
use Rattle.rules.specs.Listing.{digits, decimal}
use Rattle.listing.specs.Output.{Output, Writes, writes, ◌then◌}

module _ (most n : ℕ) (after : List ℕ) where
  abbrev pick : Bool → List ℕ
  pick b = elim b [ true ↦ (48 + n) ∷ after | false ↦ digits most (n / 10) ((48 + n % 10) ∷ after) ]

  pub digits_last : n < 10 → digits (suc most) n after ≡ (48 + n) ∷ after
  digits_last h = ap pick (lt-ltb n 10 h)

  pub digits_more : 10 ≤ n → digits (suc most) n after ≡ digits most (n / 10) ((48 + n % 10) ∷ after)
  digits_more h = ap pick (le-ltb n 10 h)

digits_append : (most n : ℕ) (after : List ℕ) → digits most n after ≡ digits most n [] ++ after
digits_append zero n after = refl
digits_append (suc most) n after =
    let last : List ℕ = (48 + n % 10) ∷ [] in
    by_lt n 10
    (λ h. digits_last most n after h ∙ sym (ap (λ (l : List ℕ). l ++ after) (digits_last most n [] h)))
    (λ h. digits_more most n after h ∙ digits_append most (n / 10) ((48 + n % 10) ∷ after) ∙ sym (ap (λ (l : List ℕ). l ++ after) (digits_more most n [] h ∙ digits_append most (n / 10) last) ∙ append_assoc (digits most (n / 10) []) last after))

-- any two bounds above the number give the same digits
pub digits-enough : (most more n : ℕ) (after : List ℕ) → n < most → n < more → digits most n after ≡ digits more n after
digits-enough zero more n after l h = absurd (omega arith)
digits-enough (suc most) zero n after l h = absurd (omega arith)
digits-enough (suc most) (suc more) n after l h =
    by_lt n 10
    (λ k. digits_last most n after k ∙ sym (digits_last more n after k))
    (λ k. digits_more most n after k ∙ digits-enough most more (n / 10) ((48 + n % 10) ∷ after) (omega (arith, k)) (omega (arith, k)) ∙ sym (digits_more more n after k))

pub decimal-one : (n : ℕ) → n < 10 → decimal n ≡ (48 + n) ∷ []
decimal-one n h = digits_last n n [] h

pub decimal-more : (n : ℕ) → 10 ≤ n → decimal n ≡ decimal (n / 10) ++ ((48 + n % 10) ∷ [])
decimal-more n h =
    digits_more n n [] h ∙ digits-enough n (suc (n / 10)) (n / 10) ((48 + n % 10) ∷ []) (omega arith) (omega arith) ∙ digits_append (suc (n / 10)) (n / 10) ((48 + n % 10) ∷ [])

-- ---- the answers of `put_decimal`
pub writes_one : {o q : Output} (n : ℕ) → n < 10 → Writes o q ((48 + n % 10) ∷ []) → Writes o q (decimal n)
writes_one n h w = writes (ap (λ (d : ℕ). (48 + d) ∷ []) (omega arith) ∙ sym (decimal-one n h)) w

pub writes_more : {o p q : Output} (n : ℕ) → 10 ≤ n → Writes o p (decimal (n / 10)) → Writes p q ((48 + n % 10) ∷ []) → Writes o q (decimal n)
writes_more n h d e = writes (sym (decimal-more n h)) (d then e)

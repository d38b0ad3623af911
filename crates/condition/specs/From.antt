-- A list of what stands in so many places from one on, and its laws: how many, what stands at each, and when two such lists are the same.
use Rattle.std.specs.Prelude.{◌≡◌, refl, List, [], ◌∷◌, ◌++◌, map, ℕ, zero, suc, ◌+◌, ◌<◌, ◌≤◌, get_or, set, length}
use Rattle.std.proofs.Common.{sym, ap, ◌∙◌, add-zero, arith}

abbrev pub from : {A : Type 0} → (ℕ → A) → ℕ → ℕ → List A
from f zero place = []
from f (suc n) place = f place ∷ from f n (suc place)

pub next_place : (p k : ℕ) → suc p + k ≡ p + suc k
next_place p k = omega arith

pub from-many : {A : Type 0} (f : ℕ → A) (n p : ℕ) → length (from f n p) ≡ n
from-many f zero p = refl
from-many f (suc n) p = ap suc (from-many f n (suc p))

pub from_more : {A : Type 0} (f : ℕ → A) (n p : ℕ) → from f (suc n) p ≡ from f n p ++ (f (p + n) ∷ [])
from_more f zero p = ap (λ k. f k ∷ []) (sym (add-zero p))
from_more f (suc n) p = ap (λ l. f p ∷ l) (from_more f n (suc p) ∙ ap (λ k. from f n (suc p) ++ (f k ∷ [])) (next_place p n))

pub from-get : {A : Type 0} (d : A) (f : ℕ → A) (n p k : ℕ) → k < n → get_or (from f n p) k d ≡ f (p + k)
from-get d f zero p k h = absurd (omega arith)
from-get d f (suc n) p zero h = ap f (sym (add-zero p))
from-get d f (suc n) p (suc k) h = from-get d f n (suc p) k (omega arith) ∙ ap f (next_place p k)

pub from_past : {A : Type 0} (d : A) (f : ℕ → A) (n p k : ℕ) → n ≤ k → get_or (from f n p) k d ≡ d
from_past d f zero p k h = refl
from_past d f (suc n) p zero h = absurd (omega arith)
from_past d f (suc n) p (suc k) h = from_past d f n (suc p) k (omega arith)

pub from-map : {A B : Type 0} (h : A → B) (f : ℕ → B) (g : ℕ → A) (n p q : ℕ) → ((k : ℕ) → k < n → f (p + k) ≡ h (g (q + k))) → from f n p ≡ map h (from g n q)
from-map h f g zero p q e = refl
from-map h f g (suc n) p q e =
    let first : f p ≡ h (g q) = ap f (sym (add-zero p)) ∙ e 0 (omega arith) ∙ ap (λ k. h (g k)) (add-zero q) in
    λ i. first i ∷ from-map h f g n (suc p) (suc q) (λ k l. ap f (next_place p k) ∙ e (suc k) (omega arith) ∙ ap (λ m. h (g m)) (sym (next_place q k))) i

pub from-same : {A : Type 0} (f g : ℕ → A) (n p : ℕ) → ((k : ℕ) → k < n → f (p + k) ≡ g (p + k)) → from f n p ≡ from g n p
from-same f g zero p e = refl
from-same f g (suc n) p e =
    let first : f p ≡ g p = ap f (sym (add-zero p)) ∙ e 0 (omega arith) ∙ ap g (add-zero p) in
    λ i. first i ∷ from-same f g n (suc p) (λ k l. ap f (next_place p k) ∙ e (suc k) (omega arith) ∙ ap g (sym (next_place p k))) i

-- one place changed
pub from-set : {A : Type 0} (f g : ℕ → A) (n p j : ℕ) (x : A) → j < n → g (p + j) ≡ x → ((k : ℕ) → k < n → (k ≡ j → ⊥) → g (p + k) ≡ f (p + k)) → from g n p ≡ set (from f n p) j x
from-set f g zero p j x h e o = absurd (omega arith)
from-set f g (suc n) p zero x h e o =
    let first : g p ≡ x = ap g (sym (add-zero p)) ∙ e in
    λ i. first i ∷ from-same g f n (suc p) (λ k l. ap g (next_place p k) ∙ o (suc k) (omega arith) (λ z. omega (arith, z)) ∙ ap f (sym (next_place p k))) i
from-set f g (suc n) p (suc j) x h e o =
    let first : g p ≡ f p = ap g (sym (add-zero p)) ∙ o 0 (omega arith) (λ z. omega (arith, z)) ∙ ap f (add-zero p) in
    λ i. first i ∷ from-set f g n (suc p) j x (omega arith) (ap g (next_place p j) ∙ e) (λ k l d. ap g (next_place p k) ∙ o (suc k) (omega arith) (λ z. d (omega (arith, z))) ∙ ap f (sym (next_place p k))) i

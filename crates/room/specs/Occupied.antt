-- Whether somebody is inside: one of the 32 standings is.
use Rattle.std.specs.Prelude.{◌≡◌, refl, Bool, true, false, ◌||◌, List, [], ◌∷◌, ℕ, zero, suc, ◌+◌, eqb, get_or, length, if◌then◌else◌}
use Rattle.std.specs.List.{list_any}
use Rattle.std.proofs.Common.{sym, ap, ◌∙◌, arith, add-zero, zero-add}
use Rattle.rules.specs.Base.{any}
use Rattle.rules.specs.Room.{is_inside}
use Rattle.rules.specs.Step.{occupied}
use Rattle.condition.specs.From.{from}
use Rattle.condition.specs.Closes.{condition_in}
use Rattle.room.specs.Arrays.{Arrays, standing_at, room_of}
use Rattle.room.specs.Kept.{Sound}
use Rattle.room.specs.Steps.{inside_is}

abbrev pub is_in : ℕ → Bool
is_in code = eqb code 2

-- of so many standings from job j on
abbrev pub somebody : List ℕ → ℕ → ℕ → Bool
somebody standing n j = any is_in (from (λ k. get_or standing k 0) n j)

-- ---- as the code has it: a test over the whole list
or-if : (b c : Bool) → (b || c) ≡ (if b then true else c)
or-if true c = refl
or-if false c = refl

any_whole : (l : List ℕ) (f : ℕ → ℕ) (p : ℕ) → ((k : ℕ) → f (p + k) ≡ get_or l k 0) → list_any is_in l ≡ any is_in (from f (length l) p)
any_whole [] f p e = refl
any_whole (x ∷ l) f p e =
    let here : f p ≡ x = ap f (sym (add-zero p)) ∙ e 0 in
    let later = any_whole l f (suc p) (λ k. let s : suc p + k ≡ p + suc k = omega arith in ap f s ∙ e (suc k)) in
    rw (here, later) (or-if (is_in x) (any is_in (from f (length l) (suc p))))

pub somebody-listed : (standing : List ℕ) → length standing ≡ 32 → list_any is_in standing ≡ somebody standing 32 0
somebody-listed standing long =
    any_whole standing (λ k. get_or standing k 0) 0 (λ k. ap (λ m. get_or standing m 0) (zero-add k)) ∙ ap (λ n. somebody standing n 0) long

-- ---- and that is the rules' test
pub occupied-is : (a : Arrays) → Sound a → occupied (room_of a) ≡ somebody a.standing 32 0
occupied-is a k = go 32 0
  where
    go : (n j : ℕ) → any is_inside (from (standing_at a) n j) ≡ somebody a.standing n j
    go zero j = refl
    go (suc n) j = (λ i. if inside_is (condition_in a.slots j) (get_or a.ticket j 0) (get_or a.standing j 0) (k.codes j) i then true else go n (suc j) i)

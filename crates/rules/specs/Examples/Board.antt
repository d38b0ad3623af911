-- "Board examples": the starred ones in one table, proved by one statement.
use Rattle.std.specs.Prelude.{◌≡◌, refl, List, [], ◌∷◌, ◌++◌, map, ℕ, ℤ, pos, negsuc, replicate}
use Rattle.std.proofs.Math.Option.{Option, none, some}
use Rattle.rules.specs.Number.{Read, read, refused, number, signed}
use Rattle.rules.specs.Condition.{Given, Atom, close}
use Rattle.rules.specs.Tag.{tag}
use Rattle.rules.specs.Room.{Room, Standing, inside, waiting}
use Rattle.rules.specs.Step.{Report, accepted, done, step, leave}

-- what is asked: a number's bytes, a signed number, a closure, a tag; or whom the last job's Leave calls while x and y are
-- these and the others stand so
pub data Question : Type 0 where
  number_of : List ℕ → Question
  signed_of : ℕ → Question
  closed : List ℤ → Given → Question
  tag_of : List Atom → Question
  leaving : ℤ → ℤ → List Standing → Question

pub data Answer : Type 0 where
  reads : Read ℕ → Answer
  is : ℤ → Answer
  closes-to : Atom → Answer
  tagged : Option Atom → Answer
  reports : Report → Answer

-- x, y and x − 2y are measures 0, 1 and 2; jobs 0 and 1 stand so, and job 2 is inside
abbrev pub board-room : ℤ → ℤ → List Standing → Room
board-room x y others = record {
  measures = (pos 1 ∷ replicate 7 (pos 0)) ∷ (pos 0 ∷ pos 1 ∷ replicate 6 (pos 0)) ∷ (pos 1 ∷ negsuc 1 ∷ replicate 6 (pos 0)) ∷ [];
  values = x ∷ y ∷ replicate 6 (pos 0);
  standings = others ++ (inside ∷ []);
  next_ticket = 7;
}

abbrev pub answer : Question → Answer
answer (number_of bytes) = reads (number bytes)
answer (signed_of n) = is (signed n)
answer (closed locals a) = closes-to (close locals a)
answer (tag_of a) = tagged (tag a)
answer (leaving x y others) = reports (step (board-room x y others) (leave 2)).report

abbrev pub atom : ℕ → ℕ → ℕ → Atom
atom measure operator key = record { measure = measure; operator = operator; key = pos key }

-- a job that waits with this ticket for one alternative
abbrev pub waits-for : ℕ → List Atom → Standing
waits-for ticket alternative = waiting (alternative ∷ []) ticket

-- A waits for x ≥ 5 and y ≠ 1, B for x > 7
abbrev pub A-and-B : List Standing
A-and-B = waits-for 0 (atom 0 6 5 ∷ atom 1 2 1 ∷ []) ∷ waits-for 1 (atom 0 5 7 ∷ []) ∷ []

abbrev pub calls : ℕ → ℕ → Answer
calls j count = reports (accepted done (some j) count)

abbrev pub calls-nobody : ℕ → Answer
calls-nobody count = reports (accepted done none count)

pub record Row : Type 0 where
  pub asked : Question
  pub answered : Answer

infix 3 ◌gives◌
abbrev pub ◌gives◌ : Question → Answer → Row
q gives a = record { asked = q; answered = a }

abbrev pub board : List Row
board =
    (number_of (128 ∷ 1 ∷ []) gives reads (read 128 []))
    ∷ (number_of (129 ∷ 0 ∷ []) gives reads (refused 2))
    ∷ (number_of (255 ∷ 255 ∷ 255 ∷ 255 ∷ 15 ∷ []) gives reads (read 4_294_967_295 []))
    ∷ (number_of (255 ∷ 255 ∷ 255 ∷ 255 ∷ 16 ∷ []) gives reads (refused 2))
    ∷ (signed_of 95 gives is (negsuc 47))
    ∷ (signed_of 96 gives is (pos 48))
    ∷ (signed_of 1 gives is (negsuc 0))
    ∷ (signed_of 0 gives is (pos 0))
    ∷ (closed (pos 11 ∷ pos 2 ∷ pos 0 ∷ pos 0 ∷ []) (record { measure = 2; operator = 5; coefficients = pos 1 ∷ negsuc 0 ∷ pos 0 ∷ pos 0 ∷ []; constant = pos 0 }) gives closes-to (atom 2 5 9))
    ∷ (tag_of (atom 0 3 5 ∷ atom 1 1 3 ∷ []) gives tagged (some (atom 1 1 3)))
    ∷ (tag_of (atom 0 1 8 ∷ atom 1 1 9 ∷ []) gives tagged (some (atom 0 1 8)))
    ∷ (tag_of (atom 0 2 8 ∷ []) gives tagged none)
    ∷ (leaving (pos 9) (pos 1) A-and-B gives calls 1 2)
    ∷ (leaving (pos 9) (pos 2) A-and-B gives calls 0 1)
    ∷ (leaving (pos 6) (pos 1) A-and-B gives calls-nobody 1)
    ∷ (leaving (pos 4) (pos 0) (waits-for 0 (atom 0 5 3 ∷ []) ∷ waits-for 1 (atom 0 6 3 ∷ []) ∷ []) gives calls 1 1)
    ∷ (leaving (pos 8) (pos 0) (waits-for 6 (atom 0 1 8 ∷ []) ∷ waits-for 4 (atom 0 1 8 ∷ []) ∷ []) gives calls 1 1)
    ∷ (leaving (pos 0) (pos 0) (waits-for 0 (atom 0 2 0 ∷ []) ∷ waits-for 1 (atom 0 2 0 ∷ []) ∷ []) gives calls-nobody 1)
    ∷ []

pub board-holds : map (λ row. answer row.asked) board ≡ map (λ row. row.answered) board
board-holds = refl

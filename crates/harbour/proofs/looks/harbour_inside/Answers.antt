-- The position of the first 2 is the job inside.
use Rattle.std.proofs.Common.{◌≡◌, ◌∙◌, rules}
use borrow.Author.Tests.{tests}
use Rattle.std.proofs.lemmas.Iterator.{IsFirst-from_position, YieldsList-from_slice}
use Rattle.harbour.specs.Looks.{inside-found}
use Rattle.harbour.proofs.looks.harbour_inside.Goals as goal

pub returns : goal.returns
returns c =
    c.unwrap_or.ensures
    ∙ inside-found c.args.standing.now _ (search rules)
    (IsFirst-from_position _ _ _ (λ y. y ≡ 2) (λ y. y ≡ 2 → ⊥) c.position-job.ensures.ran (YieldsList-from_slice c.args.standing.now cc)
    (λ y q k. search (rules, tests)) (λ y q k. search (rules, tests)))

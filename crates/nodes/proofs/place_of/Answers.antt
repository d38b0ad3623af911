-- `position` tests every place before the first that holds the node.
use Rattle.std.proofs.Common.{◌≡◌, rules}
use borrow.Author.Tests.{tests}
use Rattle.std.proofs.lemmas.Iterator.{IsFirst-from_position, YieldsList-from_slice}
use Rattle.nodes.specs.Finds.{place-first}
use Rattle.nodes.proofs.place_of.Goals as goal

pub returns : goal.returns
returns c =
    place-first _ _ _
    (IsFirst-from_position _ _ _ (λ y. y ≡ c.args.x) (λ y. y ≡ c.args.x → ⊥) c.position.ensures.ran
    (YieldsList-from_slice c.args.places.now cc) (λ y q k. search (rules, tests)) (λ y q k. search (rules, tests)))

-- Where the loop over the alternatives begins: nothing is passed yet, so what is left is the whole.
use Rattle.std.proofs.Common.{refl}
use Rattle.condition.specs.Slots.{now_of}
use Rattle.closing.specs.Slots.{given_of}
use Rattle.given.specs.Givens.{given-condition-start}
use Rattle.given.proofs.given_true.Goals as goal

pub condition-init : goal.condition-init
condition-init c =
    (refl, given-condition-start (now_of c.args.shared.now) (given_of c.args.count c.args.given.now) c.count_of-alternatives.ensures)

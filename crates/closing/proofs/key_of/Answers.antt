-- `key_of` meets its contract: four products within 100,000,000 each and a constant within 1,000,000 do not wrap.
use Rattle.std.proofs.Common.{◌≡◌, sym, subst, ◌∙◌, ap, arith, ◌*◌, ℤ, ◌+ℤ◌, get_or, pos, of_z, w64}
use Rattle.integers.specs.Machine.{Holds, is, held, add-fits, add-held}
use Rattle.rules.specs.Laws.Bounds.{Within}
use Rattle.condition.specs.Closing.{local-within}
use Rattle.closing.proofs.key_of.Goals as goal

-- what is added
part : {y z : ℤ} → z ≡ y → Within 400_000_000 y → Holds 400_000_000 z (of_z w64 z)
part e w = held (subst (Within 400_000_000) (sym e) w) (omega arith)

pub overflow_add-result : goal.overflow_add-result
overflow_add-result c =
    let w = local-within c.args.given.now.coefficients c.args.given.now.locals (c.args.slot * 4) c.requires.fact_2 c.requires.fact_3 in
    add-fits (part c.sum_of.ensures w) (held (c.requires.fact_4 _) (omega arith)) (omega arith)

pub returns : goal.returns
returns c =
    let w = local-within c.args.given.now.coefficients c.args.given.now.locals (c.args.slot * 4) c.requires.fact_2 c.requires.fact_3 in
    is (add-held (part c.sum_of.ensures w) (held (c.requires.fact_4 c.args.slot) (omega arith)) (omega arith))
    ∙ ap (λ z. z +ℤ get_or c.args.given.now.constant c.args.slot (pos 0)) c.sum_of.ensures

-- `given_atom_true` meets its contract: the slot's operator between its measure's value and the key that closure leaves.
use Rattle.std.proofs.Common.{◌≡◌, rules, pos, get_or, length, ap, ◌∙◌}
use Rattle.integers.specs.Machine.{back}
use Rattle.condition.specs.Compare.{compared}
use Rattle.condition.specs.Closes.{key-closes}
use Rattle.condition.specs.Slots.{now_of}
use Rattle.closing.specs.Slots.{given_of}
use Rattle.given.proofs.given_atom_true.Goals as goal

pub returns : goal.returns
returns c =
    let a = c.args in
    let four : length a.given.now.locals ≡ 4 = search rules in
    let m = c.measure_of-value in
    let k = c.key_of in
    compared (get_or a.given.now.operator a.slot 0) c.compare.ensures
    (back m.result m.type_inv ∙ m.ensures ∙ ap (λ n. get_or (now_of a.shared.now) n (pos 0)) c.from.ensures)
    (back k.result k.type_inv ∙ k.ensures ∙ key-closes (given_of 0 a.given.now) a.slot four)

-- `atom_true` meets its contract: the slot's operator between its measure's value and its key.
use Rattle.std.proofs.Common.{pos, get_or, arith, ap, ◌∙◌}
use Rattle.integers.specs.Machine.{back, in-fits}
use Rattle.condition.specs.Compare.{compared}
use Rattle.condition.specs.Measures.{now_at}
use Rattle.condition.proofs.slots.Conditions.atom_true.Goals as goal

pub returns : goal.returns
returns c =
    let a = c.args in
    let m = c.measure_of-value in
    compared (get_or a.self.now.operator a.slot 0) c.compare.ensures
    (back m.result m.type_inv ∙ m.ensures
    ∙ ap (λ n. get_or (now_at a.shared.now.coefficients a.shared.now.values) n (pos 0)) c.from.ensures)
    (back (get_or a.self.now.key a.slot (pos 0)) (in-fits (c.requires.fact_2.keys a.slot) (omega arith)).sfits)

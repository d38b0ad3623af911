-- The counts, the measures and the operators are copied whole; at the end all sixteen keys are stored.
use Rattle.std.proofs.Common.{rules, ◌+◌, ◌-◌, ◌*◌, arith, set}
use Rattle.condition.specs.StoredFrom.{put_all}
use Rattle.condition.specs.Closing.{key_at, closed_slots}
use Rattle.closing.proofs.Laws.{put_sets}
use Rattle.closing.proofs.close.Goals as goal

pub returns : goal.returns
returns c =
    let a = c.args in
    let o = a.conditions.now in
    let g = a.given.now in
    let counts = put_sets o.atoms c.copy_from_slice.new.self g.counts (a.job * 4) 4 (a.job * 4 + 4 - a.job * 4)
    c.copy_from_slice.ensures.after (search rules) (omega arith) (omega arith) in
    let measure = put_sets o.measure c.copy_from_slice-2.new.self g.measure (a.job * 16) 16 (a.job * 16 + 16 - a.job * 16)
    c.copy_from_slice-2.ensures.after (search rules) (omega arith) (omega arith) in
    let operator = put_sets o.operator c.copy_from_slice-3.new.self g.operator (a.job * 16) 16 (a.job * 16 + 16 - a.job * 16)
    c.copy_from_slice-3.ensures.after (search rules) (omega arith) (omega arith) in
    let key = put_all (key_at g.coefficients g.locals g.constant) (a.job * 16) o.key {n = 16} (omega arith) c.loop-i.invariant in
    λ i. closed_slots (set o.alternatives a.job a.count) (counts i) (measure i) (operator i) (key i)

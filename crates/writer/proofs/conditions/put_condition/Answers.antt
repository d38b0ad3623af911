-- One alternative more is put, or refused.
use Rattle.std.proofs.Common.{◌*◌, ◌&&◌, leb, get_or, refl, arith}
use Rattle.rules.specs.Writer.{all-written, write_field, write_counted, write_atom}
use Rattle.condition.specs.From.{from}
use Rattle.writer.specs.Puts.{field-numbered, puts-stopped, only-short}
use Rattle.writer.specs.Rows.{after-near, after_more, after-stop, after-done}
use Rattle.writer.specs.Givens.{atom_of, atom-short, alternative_of, field-in, counted-as, counted-short}
use Rattle.writer.proofs.conditions.put_condition.Goals as goal

pub returns-in_err-next : goal.returns-in_err-next
returns-in_err-next c =
    let a = c.args in
    let w = write_counted (write_atom a.measures) in
    counted-as w (alternative_of a.given.now) a.count 0
    (puts-stopped (field-numbered c.in_err-next.ensures)
    (all-written w (from (alternative_of a.given.now) a.count 0)) refl c.from_residual.ensures.1)

pub put_alternative-requires-clause-fact_2 : goal.put_alternative-requires-clause-fact_2
put_alternative-requires-clause-fact_2 c =
    let a = c.args in
    let l = c.loop-i in
    let g = a.given.now in
    omega (
      arith,
      c.requires.fact_1,
      l.invariant.long,
      field-in 4 1 4 a.count (field-numbered c.in_ok-next.ensures),
      after-near (write_counted (write_atom a.measures)) 5 145 (write_field 4 1 4 a.count) (alternative_of g)
          (only-short (leb 1 a.count && leb a.count 4) 4 a.count)
          (λ i. counted-short (write_atom a.measures) 35 (atom_of g) (atom-short a.measures g) (get_or g.counts i 0)
          (i * 4)) 0 l.i l.invariant,
    )

pub returns-in_err-next-2 : goal.returns-in_err-next-2
returns-in_err-next-2 c =
    let a = c.args in
    let l = c.loop-i in
    let w = write_counted (write_atom a.measures) in
    counted-as w (alternative_of a.given.now) a.count 0
    (after-stop w (write_field 4 1 4 a.count) (alternative_of a.given.now) 0 l.i l.invariant (omega arith) a.count
    (omega arith) c.in_err-next-2.ensures c.from_residual-in_err-next-2.ensures.1)

pub loop-i-preserved : goal.loop-i-preserved
loop-i-preserved c =
    let a = c.args in
    let l = c.loop-i in
    after_more (write_counted (write_atom a.measures)) (write_field 4 1 4 a.count) (alternative_of a.given.now) 0 l.i l.invariant
    (omega arith) c.in_ok-next-2.ensures

pub returns : goal.returns
returns c =
    let a = c.args in
    let l = c.loop-i in
    let w = write_counted (write_atom a.measures) in
    counted-as w (alternative_of a.given.now) a.count 0
    (after-done w (write_field 4 1 4 a.count) (alternative_of a.given.now) 0 l.i a.count l.invariant (omega arith) (omega arith))

-- One atom more is put, or refused.
use Rattle.std.proofs.Common.{◌*◌, ◌&&◌, leb, get_or, refl, arith}
use Rattle.rules.specs.Writer.{all-written, write_field, write_atom}
use Rattle.condition.specs.From.{from}
use Rattle.writer.specs.Puts.{field-numbered, puts-stopped, only-short}
use Rattle.writer.specs.Rows.{after-none, after-near, after_more, after-stop, after-done}
use Rattle.writer.specs.Givens.{atom_of, atom-short, field-as, field-in, counted-as}
use Rattle.writer.proofs.conditions.put_alternative.Goals as goal

pub returns-in_err-next : goal.returns-in_err-next
returns-in_err-next c =
    let a = c.args in
    let n = get_or a.given.now.counts a.i 0 in
    counted-as (write_atom a.measures) (atom_of a.given.now) n (a.i * 4)
    (puts-stopped (field-as 4 1 4 c.from.ensures (field-numbered c.in_err-next.ensures))
    (all-written (write_atom a.measures) (from (atom_of a.given.now) n (a.i * 4))) refl c.from_residual.ensures.1)

pub loop-k-init : goal.loop-k-init
loop-k-init c = after-none (write_field 4 1 4 (get_or c.args.given.now.counts c.args.i 0))
    (field-as 4 1 4 c.from.ensures (field-numbered c.in_ok-next.ensures))

pub put_atom-requires-clause-fact_2 : goal.put_atom-requires-clause-fact_2
put_atom-requires-clause-fact_2 c =
    let a = c.args in
    let l = c.loop-k in
    let n = get_or a.given.now.counts a.i 0 in
    omega (
      arith,
      c.requires.fact_2,
      l.invariant.long,
      field-in 4 1 4 n (field-as 4 1 4 c.from.ensures (field-numbered c.in_ok-next.ensures)),
      after-near (write_atom a.measures) 5 35 (write_field 4 1 4 n) (atom_of a.given.now) (only-short (leb 1 n && leb n 4) 4 n)
          (atom-short a.measures a.given.now) (a.i * 4) l.k l.invariant,
    )

pub returns-in_err-next-2 : goal.returns-in_err-next-2
returns-in_err-next-2 c =
    let a = c.args in
    let l = c.loop-k in
    let n = get_or a.given.now.counts a.i 0 in
    counted-as (write_atom a.measures) (atom_of a.given.now) n (a.i * 4)
    (after-stop (write_atom a.measures) (write_field 4 1 4 n) (atom_of a.given.now) (a.i * 4) l.k l.invariant refl n
    (omega arith) c.in_err-next-2.ensures c.from_residual-in_err-next-2.ensures.1)

pub loop-k-preserved : goal.loop-k-preserved
loop-k-preserved c =
    let a = c.args in
    let l = c.loop-k in
    after_more (write_atom a.measures) (write_field 4 1 4 (get_or a.given.now.counts a.i 0)) (atom_of a.given.now)
    (a.i * 4) l.k l.invariant refl c.in_ok-next-2.ensures

pub returns : goal.returns
returns c =
    let a = c.args in
    let l = c.loop-k in
    let n = get_or a.given.now.counts a.i 0 in
    counted-as (write_atom a.measures) (atom_of a.given.now) n (a.i * 4)
    (after-done (write_atom a.measures) (write_field 4 1 4 n) (atom_of a.given.now) (a.i * 4) l.k n l.invariant (omega arith) (omega arith))

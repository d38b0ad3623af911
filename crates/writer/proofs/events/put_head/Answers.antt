-- The number of measures is judged, then kind and job are put.
use Rattle.std.proofs.Common.{refl, arith}
use Rattle.writer.specs.Puts.{puts_then}
use Rattle.writer.specs.Events.{kind_number, head-put, kind-put}
use Rattle.writer.proofs.events.put_head.Goals as goal

pub returns : goal.returns
returns c =
    let a = c.args in
    let kind = kind-put a.kind c.from-number.ensures c.put_number-next.ensures.0 c.put_number-next.ensures.1 in
    head-put a.out.now a.measures (kind_number a.kind) a.job (omega arith) (omega arith) (puts_then kind refl c.put_below.ensures)

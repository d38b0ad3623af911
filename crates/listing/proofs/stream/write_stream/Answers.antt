-- An accepted opening leaves a room that events may be given to, and its lines come after the opening's.
use Rattle.listing.specs.Streams.{stream-kept, stream-written, stream-refused}
use Rattle.listing.proofs.stream.write_stream.Goals as goal

pub write_events-requires : goal.write_events-requires
write_events-requires c = stream-kept c.args.input.now c.open.ensures c.in-Ok.is

pub returns-in-Ok : goal.returns-in-Ok
returns-in-Ok c = stream-written c.args.input.now c.open.ensures c.in-Ok.is c.put_line-next.ensures c.write_events.ensures.written

pub returns-in-Err : goal.returns-in-Err
returns-in-Err c = stream-refused c.args.input.now c.open.ensures c.in-Err.is c.put_refusal.ensures

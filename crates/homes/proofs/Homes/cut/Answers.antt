-- The home's places are lent to `place_of` and `take_out`, and come back where they were, with the freed one cleared.
use Rattle.std.proofs.Common.{arith, ◌+◌, ◌*◌, ◌-◌}
use Rattle.homes.specs.Moves.{cut-part, not-empty, found-place, found-below, always-found}
use Rattle.homes.proofs.Homes.cut.Goals as goal

pub overflow_sub-left : goal.overflow_sub-left
overflow_sub-left c = not-empty c.args.self.now.places c.args.self.now.lengths c.args.home c.args.x c.requires.fact_3

pub unreachable-requires : goal.unreachable-requires
unreachable-requires c =
    always-found c.args.self.now.places c.args.self.now.lengths c.args.home c.args.x c.requires.fact_3
    (c.args.home * 128 + 128 - c.args.home * 128)
    (omega arith) c.requires.fact_1 c.requires.fact_2 (omega arith) c.in_default.ensures

pub take_out-requires-clause-fact_1 : goal.take_out-requires-clause-fact_1
take_out-requires-clause-fact_1 c =
    found-below c.args.self.now.places c.args.self.now.lengths c.args.home c.args.x c.requires.fact_3
    (c.args.home * 128 + 128 - c.args.home * 128)
    (omega arith) c.requires.fact_1 c.requires.fact_2 (omega arith) _ c.in-Some.ensures.1

pub returns : goal.returns
returns c =
    cut-part _ _ _ _ _ _ _ (omega arith) (omega arith) c.requires.fact_1 (omega arith) c.requires.fact_2 _ c.requires.fact_3
    (found-place c.args.self.now.places c.args.self.now.lengths c.args.home c.args.x c.requires.fact_3
    (c.args.home * 128 + 128 - c.args.home * 128)
    (omega arith) c.requires.fact_1 c.requires.fact_2 (omega arith) _ c.in-Some.ensures.1)
    c.take_out.ensures

-- One law for each answer, from the oldest that was found, or that none was.
use Rattle.std.proofs.Common.{refl, sym, ◌∙◌, ◌+◌, ◌<◌, ◌≤◌, length, arith}
use Rattle.entries.specs.Changes.{change-one, change-left}
use Rattle.entries.specs.Parts.{parts-follower, parts_last}
use Rattle.entries.specs.Passes.{next-below, next-other, next-behind, next-least, next-none, parts_next}
use Rattle.entries.proofs.part_entry.Goals as goal

pub number_of-new-requires : goal.number_of-new-requires
number_of-new-requires c =
    next-below c.args.entry.now c.args.ticket.now c.args.job c.number_of-number.ensures c.oldest_of.ensures (omega arith) c.in-Some.is

pub returns : goal.returns
returns c condition q =
    let entry = c.args.entry.now in
    let ticket = c.args.ticket.now in
    let job = c.args.job in
    let number = c.number_of-number.ensures in
    let found = c.oldest_of.ensures in
    let some = c.in-Some.is in
    let short : length entry ≤ 32 = omega arith in
    let within : job < length entry = omega arith in
    parts_next condition ticket entry _ job q c.requires.fact_2 c.in-Some.next
    (change-left entry _ (c.in-Some.next + 1) job number c.number_of-new.ensures short within c.rename.ensures)
    (c.if-not-led.false ∙ number)
    (next-other entry ticket job number found within some) (next-behind entry ticket job number found within some)
    (next-least entry ticket job number found within some short) (next-below entry ticket job number found within some)

pub returns-in_default : goal.returns-in_default
returns-in_default c condition q =
    let entry = c.args.entry.now in
    let ticket = c.args.ticket.now in
    let job = c.args.job in
    let number = c.number_of-number.ensures in
    let short : length entry ≤ 32 = omega arith in
    let within : job < length entry = omega arith in
    parts_last condition ticket entry _ job q c.requires.fact_2 (change-one entry job 0 refl within) (c.if-not-led.false ∙ number)
    (next-none entry ticket job number c.oldest_of.ensures within c.in_default.is short)

pub returns-then-not-led : goal.returns-then-not-led
returns-then-not-led c condition q =
    let entry = c.args.entry.now in
    let job = c.args.job in
    parts-follower condition c.args.ticket.now entry _ job q c.requires.fact_2 (change-one entry job 0 refl (omega arith))
    (λ e. c.if-not-led.true (e ∙ sym c.number_of-number.ensures))

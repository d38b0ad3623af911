-- One law for each answer, from the lead that was found, or that none was.
use Rattle.std.proofs.Common.{◌+◌, arith}
use Rattle.condition.specs.Slots.{condition_of}
use Rattle.entries.specs.Alike.{like-lead, like-same, like-nobody}
use Rattle.entries.specs.Changes.{change-one, change-all}
use Rattle.entries.specs.Joins.{joins-alone}
use Rattle.entries.specs.Shares.{joins-behind, joins-first, older-then}
use Rattle.entries.proofs.join_entry.Goals as goal

pub returns-then-ticket-lead : goal.returns-then-ticket-lead
returns-then-ticket-lead c =
    let a = c.args in
    let condition = condition_of a.conditions.now in
    let lead = c.in-Some.lead in
    let found = c.in-Some.ensures in
    joins-behind condition a.ticket.now a.entry.now _ a.job c.requires.job_bound_3 c.requires.entries_1
    lead (like-lead condition a.entry.now a.job lead found.1 found.0) (like-same condition a.entry.now a.job lead found.1 found.0)
    (change-one a.entry.now a.job (lead + 1) c.number_of-old.ensures (omega arith)) c.if-ticket-lead.true

pub returns : goal.returns
returns c =
    let a = c.args in
    let condition = condition_of a.conditions.now in
    let lead = c.in-Some.lead in
    let found = c.in-Some.ensures in
    let leads = like-lead condition a.entry.now a.job lead found.1 found.0 in
    joins-first condition a.ticket.now a.entry.now _ a.job c.requires.job_bound_3 c.requires.entries_1
    lead leads (like-same condition a.entry.now a.job lead found.1 found.0) c.requires.entries_2
    (change-all a.entry.now _ lead (a.job + 1) a.job c.number_of-old.ensures c.number_of-number.ensures (omega arith) (omega arith) c.rename.ensures)
    (older-then a.ticket.now a.entry.now a.job lead leads c.requires.by_index c.if-ticket-lead.false) found.0

pub returns-in_default : goal.returns-in_default
returns-in_default c =
    let a = c.args in
    let condition = condition_of a.conditions.now in
    joins-alone condition a.ticket.now a.entry.now _ a.job c.requires.job_bound_3 c.requires.entries_1
    (change-one a.entry.now a.job (a.job + 1) c.number_of-number.ensures (omega arith))
    (like-nobody condition a.entry.now a.job 32 c.in_default.ensures a.ticket.now c.requires.entries_1 c.requires.entries_2
    (omega arith) (omega arith))

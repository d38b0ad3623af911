-- One law for each answer of `join_entry`.
use Rattle.index.specs.Joining.{alone-asks, alone-index, follows-index, old-asks, new-asks, leads-index}
use Rattle.index.proofs.Index.join.Goals as goal

-- ---- alone
pub put_nodes-requires-clause-by_index : goal.put_nodes-requires-clause-by_index
put_nodes-requires-clause-by_index c =
    (alone-asks _ _ _ _ _ _ _ _ _ c.requires.index c.requires.job_bound_4 c.join_entry.ensures c.requires.job_bound_2
    c.requires.job_bound_1).1.1.1.1

pub returns-in-Alone-clause-joined : goal.returns-in-Alone-clause-joined
returns-in-Alone-clause-joined c =
    alone-index _ _ _ _ _ _ _ _ _ c.requires.index c.requires.job_bound_4 c.join_entry.ensures c.requires.by_index c.requires.words_of
    c.in-Alone.is _ _ c.put_nodes.ensures

-- ---- behind another
pub returns-in-Follows-clause-joined : goal.returns-in-Follows-clause-joined
returns-in-Follows-clause-joined c =
    follows-index _ _ _ _ _ _ _ _ _ c.requires.index c.requires.job_bound_4 c.join_entry.ensures c.requires.by_index c.requires.words_of
    c.in-Follows.is

-- ---- before the lead of an entry
pub cut_nodes-requires-clause-by_index : goal.cut_nodes-requires-clause-by_index
cut_nodes-requires-clause-by_index c =
    (old-asks _ _ _ _ _ _ _ _ _ c.requires.index c.requires.job_bound_4 c.join_entry.ensures c.in-Leads.old c.in-Leads.is
    c.requires.job_bound_2).1.1.1.1.0

pub cut_nodes-requires-clause-by_index_2 : goal.cut_nodes-requires-clause-by_index_2
cut_nodes-requires-clause-by_index_2 c =
    (old-asks _ _ _ _ _ _ _ _ _ c.requires.index c.requires.job_bound_4 c.join_entry.ensures c.in-Leads.old c.in-Leads.is
    c.requires.job_bound_2).1.1.1.1.1

pub put_nodes-requires-in-Leads-clause-by_index : goal.put_nodes-requires-in-Leads-clause-by_index
put_nodes-requires-in-Leads-clause-by_index c =
    (new-asks _ _ _ _ _ _ _ _ _ c.requires.index c.requires.job_bound_4 c.join_entry.ensures c.in-Leads.old c.in-Leads.is _ _
    c.cut_nodes.ensures
    c.requires.job_bound_2 c.requires.job_bound_1).1.1.1.1

pub returns-in-Leads-clause-joined : goal.returns-in-Leads-clause-joined
returns-in-Leads-clause-joined c =
    leads-index _ _ _ _ _ _ _ _ _ c.requires.index c.requires.job_bound_4 c.join_entry.ensures c.in-Leads.old c.in-Leads.is _ _
    c.cut_nodes.ensures
    c.requires.by_index c.requires.words_of _ _ c.put_nodes-in-Leads.ensures

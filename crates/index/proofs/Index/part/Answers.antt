-- One law for each answer of `part_entry`.
use Rattle.index.specs.Parting.{follower-index, ends-asks, ends-index, lead-asks, next-asks, next-index}
use Rattle.index.proofs.Index.part.Goals as goal

-- ---- from behind another
pub returns-in-Follower-clause-parted : goal.returns-in-Follower-clause-parted
returns-in-Follower-clause-parted c =
    let q = c.requires.index in
    follower-index _ _ _ _ _ _ _ _ _ q (c.part_entry.ensures _ q.entries) c.in-Follower.is

-- ---- as the last of its entry
pub cut_nodes-requires-clause-by_index : goal.cut_nodes-requires-clause-by_index
cut_nodes-requires-clause-by_index c =
    let q = c.requires.index in
    (ends-asks _ _ _ _ _ _ _ _ _ q (c.part_entry.ensures _ q.entries) c.in-Ends.is c.requires.job_bound_2).1.1.1.1.0

pub cut_nodes-requires-clause-by_index_2 : goal.cut_nodes-requires-clause-by_index_2
cut_nodes-requires-clause-by_index_2 c =
    let q = c.requires.index in
    (ends-asks _ _ _ _ _ _ _ _ _ q (c.part_entry.ensures _ q.entries) c.in-Ends.is c.requires.job_bound_2).1.1.1.1.1

pub returns-in-Ends-clause-parted : goal.returns-in-Ends-clause-parted
returns-in-Ends-clause-parted c =
    let q = c.requires.index in
    ends-index _ _ _ _ _ _ _ _ _ q (c.part_entry.ensures _ q.entries) c.in-Ends.is _ _ c.cut_nodes.ensures

-- ---- with others behind it
pub cut_nodes-requires-in-Next-clause-by_index : goal.cut_nodes-requires-in-Next-clause-by_index
cut_nodes-requires-in-Next-clause-by_index c =
    let q = c.requires.index in
    (lead-asks _ _ _ _ _ _ _ _ _ q (c.part_entry.ensures _ q.entries) c.in-Next.next c.in-Next.is c.requires.job_bound_2).1.1.1.1.0

pub cut_nodes-requires-in-Next-clause-by_index_2 : goal.cut_nodes-requires-in-Next-clause-by_index_2
cut_nodes-requires-in-Next-clause-by_index_2 c =
    let q = c.requires.index in
    (lead-asks _ _ _ _ _ _ _ _ _ q (c.part_entry.ensures _ q.entries) c.in-Next.next c.in-Next.is c.requires.job_bound_2).1.1.1.1.1

pub put_nodes-requires-clause-by_index : goal.put_nodes-requires-clause-by_index
put_nodes-requires-clause-by_index c =
    let q = c.requires.index in
    (next-asks _ _ _ _ _ _ _ _ _ q (c.part_entry.ensures _ q.entries) c.in-Next.next c.in-Next.is _ _ c.cut_nodes-in-Next.ensures
    c.requires.job_bound_2).1.1.1.1

pub returns-in-Next-clause-parted : goal.returns-in-Next-clause-parted
returns-in-Next-clause-parted c =
    let q = c.requires.index in
    next-index _ _ _ _ _ _ _ _ _ q (c.part_entry.ensures _ q.entries) c.in-Next.next c.in-Next.is _ _ c.cut_nodes-in-Next.ensures _ _
    c.put_nodes.ensures

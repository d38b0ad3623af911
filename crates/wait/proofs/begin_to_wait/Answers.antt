-- `begin_to_wait` meets its contract: while the job is not in the index nobody looks at its slots, its ticket and its rank words; then it joins.
use Rattle.std.proofs.Common.{arith}
use Rattle.wait.specs.Begins.{new-fit, new-index, may-join, begins}
use Rattle.wait.proofs.begin_to_wait.Goals as goal

pub write_words-requires-clause-fact_2 : goal.write_words-requires-clause-fact_2
write_words-requires-clause-fact_2 c k =
    let f = new-fit _ c.requires.sound c.args.job c.requires.job_bound_1 _ c.requires.given_fit c.requires.job_value_1 c.requires.job_bound_2
    _ _ _ _ _ (c.call_next-answer.ensures.calls 0) _ c.close.ensures in
    omega (arith, f.measure k, f.few)

pub join-requires-clause-job_bound_2 : goal.join-requires-clause-job_bound_2
join-requires-clause-job_bound_2 c k =
    let f = new-fit _ c.requires.sound c.args.job c.requires.job_bound_1 _ c.requires.given_fit c.requires.job_value_1 c.requires.job_bound_2
    _ _ _ _ _ (c.call_next-answer.ensures.calls 0) _ c.close.ensures in
    omega (arith, f.measure k, f.few)

pub write_words-requires-clause-fact_3 : goal.write_words-requires-clause-fact_3
write_words-requires-clause-fact_3 c =
    (new-fit _ c.requires.sound c.args.job c.requires.job_bound_1 _ c.requires.given_fit c.requires.job_value_1 c.requires.job_bound_2
    _ _ _ _ _ (c.call_next-answer.ensures.calls 0) _ c.close.ensures).key

pub join-requires-clause-job_bound_3 : goal.join-requires-clause-job_bound_3
join-requires-clause-job_bound_3 c =
    (new-fit _ c.requires.sound c.args.job c.requires.job_bound_1 _ c.requires.given_fit c.requires.job_value_1 c.requires.job_bound_2
    _ _ _ _ _ (c.call_next-answer.ensures.calls 0) _ c.close.ensures).key

pub join-requires-clause-job_bound_4 : goal.join-requires-clause-job_bound_4
join-requires-clause-job_bound_4 c =
    (may-join _ c.requires.sound c.args.job c.requires.job_bound_1 _ c.requires.given_fit c.requires.job_value_1 c.requires.job_bound_2
    _ _ _ _ _ (c.call_next-answer.ensures.calls 0) _ c.close.ensures _ _
    (rw c.call_next-answer.ensures.ranks at c.write_words.ensures.0) (rw c.call_next-answer.ensures.ranks at c.write_words.ensures.1)).out

pub join-requires-clause-by_index : goal.join-requires-clause-by_index
join-requires-clause-by_index c =
    (may-join _ c.requires.sound c.args.job c.requires.job_bound_1 _ c.requires.given_fit c.requires.job_value_1 c.requires.job_bound_2
    _ _ _ _ _ (c.call_next-answer.ensures.calls 0) _ c.close.ensures _ _
    (rw c.call_next-answer.ensures.ranks at c.write_words.ensures.0) (rw c.call_next-answer.ensures.ranks at c.write_words.ensures.1)).apart

pub join-requires-clause-words_of : goal.join-requires-clause-words_of
join-requires-clause-words_of c =
    (may-join _ c.requires.sound c.args.job c.requires.job_bound_1 _ c.requires.given_fit c.requires.job_value_1 c.requires.job_bound_2
    _ _ _ _ _ (c.call_next-answer.ensures.calls 0) _ c.close.ensures _ _
    (rw c.call_next-answer.ensures.ranks at c.write_words.ensures.0) (rw c.call_next-answer.ensures.ranks at c.write_words.ensures.1)).words

pub join-requires-clause-index : goal.join-requires-clause-index
join-requires-clause-index c =
    new-index _ c.requires.sound c.args.job c.requires.job_bound_1 _ c.requires.given_fit c.requires.job_value_1 c.requires.job_bound_2
    _ _ _ _ _ (c.call_next-answer.ensures.calls 0) _ c.close.ensures _ _
    (rw c.call_next-answer.ensures.ranks at c.write_words.ensures.0) (rw c.call_next-answer.ensures.ranks at c.write_words.ensures.1)

pub returns-clause-waited : goal.returns-clause-waited
returns-clause-waited c =
    rw c.join.ensures.ranks
    (begins _ c.requires.sound c.args.job c.requires.job_bound_1 _ c.requires.given_fit c.requires.job_value_1 c.requires.job_bound_2
    _ _ _ _ _ (c.call_next-answer.ensures.calls 0) _ c.close.ensures _ _
    (rw c.call_next-answer.ensures.ranks at c.write_words.ensures.0) (rw c.call_next-answer.ensures.ranks at c.write_words.ensures.1)
    c.requires.job_value_2 _ _ _ c.join.ensures.joined c.requires.locals_value c.searched.ensures)

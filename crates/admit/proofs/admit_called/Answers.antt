-- `admit_called` meets its contract: after the search the job is still called and not in the index, so it may join again with its old ticket.
use Rattle.std.proofs.Common.{sym, ◌∙◌, inr}
use Rattle.admit.specs.Admits.{admits-full, admits-called, may-rejoin, sent_back}
use Rattle.admit.proofs.admit_called.Goals as goal

pub returns-then-occupied-clause-steps : goal.returns-then-occupied-clause-steps
returns-then-occupied-clause-steps c next =
    admits-full _ c.requires.sound c.args.job c.requires.job_bound_1 next c.occupied.ensures (inr c.requires.job_bound_2) c.if-occupied.true

pub returns-then-condition_true-clause-steps : goal.returns-then-condition_true-clause-steps
returns-then-condition_true-clause-steps c next =
    rw c.unsearched.ensures
    (admits-called _ c.requires.sound c.args.job c.requires.job_bound_1 next c.occupied.ensures c.requires.job_bound_2 c.if-occupied.false
    c.condition_true.ensures c.if-condition_true.true)

pub join-requires-clause-job_bound_4 : goal.join-requires-clause-job_bound_4
join-requires-clause-job_bound_4 c =
    (may-rejoin _ c.requires.sound c.args.job c.requires.job_bound_1 0 c.occupied.ensures c.requires.job_bound_2 c.if-occupied.false
    c.condition_true.ensures c.if-condition_true.false _ _ _ _ _ (c.call_next-answer.ensures.calls _)).out

pub join-requires-clause-by_index : goal.join-requires-clause-by_index
join-requires-clause-by_index c =
    (may-rejoin _ c.requires.sound c.args.job c.requires.job_bound_1 0 c.occupied.ensures c.requires.job_bound_2 c.if-occupied.false
    c.condition_true.ensures c.if-condition_true.false _ _ _ _ _ (c.call_next-answer.ensures.calls _)).apart

pub join-requires-clause-words_of : goal.join-requires-clause-words_of
join-requires-clause-words_of c =
    rw c.call_next-answer.ensures.ranks
    (may-rejoin _ c.requires.sound c.args.job c.requires.job_bound_1 0 c.occupied.ensures c.requires.job_bound_2 c.if-occupied.false
    c.condition_true.ensures c.if-condition_true.false _ _ _ _ _ (c.call_next-answer.ensures.calls _)).words

pub join-requires-clause-index : goal.join-requires-clause-index
join-requires-clause-index c = rw c.call_next-answer.ensures.ranks (c.call_next-answer.ensures.calls 0).sound.index

pub returns-clause-steps : goal.returns-clause-steps
returns-clause-steps c next =
    rw (c.join.ensures.ranks ∙ c.call_next-answer.ensures.ranks)
    (sent_back _ c.requires.sound c.args.job c.requires.job_bound_1 next c.occupied.ensures c.requires.job_bound_2 c.if-occupied.false
    c.condition_true.ensures c.if-condition_true.false _ _ _ _ _ (c.call_next-answer.ensures.calls _) _ _ _
    (rw (sym c.call_next-answer.ensures.ranks) c.join.ensures.joined) c.searched.ensures)

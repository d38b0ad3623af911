-- `admit` meets its contract: one law for each standing.
use Rattle.std.proofs.Common.{inl, rules}
use Rattle.admit.specs.Admits.{admits-not, admits-full, admits-door}
use Rattle.admit.proofs.admit.Goals as goal

pub returns-then-occupied-clause-steps : goal.returns-then-occupied-clause-steps
returns-then-occupied-clause-steps c next =
    admits-full _ c.requires.sound c.args.job c.requires.job_bound next c.occupied.ensures (inl c.in-1.is) c.if-occupied.true

pub returns-else-occupied-clause-steps : goal.returns-else-occupied-clause-steps
returns-else-occupied-clause-steps c next =
    rw c.unsearched.ensures
    (admits-door _ c.requires.sound c.args.job c.requires.job_bound next c.occupied.ensures c.in-1.is c.if-occupied.false)

pub returns-in_default-clause-steps : goal.returns-in_default-clause-steps
returns-in_default-clause-steps c next = admits-not _ c.requires.sound c.args.job c.requires.job_bound next (search rules) (search rules)

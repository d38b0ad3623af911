-- A search in the room's arrays is the rules' search: those that stand waiting are those in the index, and the measures' values are the rules'.
use Rattle.std.specs.Prelude.{◌≡◌, false, List, ℕ, ◌≤◌, eqb, ℤ, pos, get_or}
use Rattle.std.proofs.Common.{sym, ap, ◌∙◌, arith, eqb-true, lt-ltb, get_or-set_other}
use Rattle.rules.specs.Laws.Cases.{by_eq}
use Rattle.rules.specs.Condition.{Condition, condition_true}
use Rattle.rules.specs.Room.{now}
use Rattle.rules.specs.Search.{Waiter, waiters, found, evaluated}
use Rattle.rules.specs.Step.{accepted, call, job_of}
use Rattle.rules.specs.Laws.In.{true-not-false}
use Rattle.condition.specs.Measures.{now_at}
use Rattle.given.specs.Nows.{now-same}
use Rattle.given.specs.Same.{condition-same, found-same, evaluated-same}
use Rattle.search.specs.Pairs.{waiters_in}
use Rattle.search.specs.Answers.{search_answer}
use Rattle.search.specs.declared.Answer.{Answer}
use Rattle.search.specs.declared.Answer.TheVariants.{Calls, Nobody}
use Rattle.room.specs.Arrays.{Arrays, room_of}
use Rattle.room.specs.Kept.{Sound}
use Rattle.room.specs.Standings.{waiters-same}
use Rattle.room.specs.Calls.{called_standing, moved, CallsNext, called-waits}
use Rattle.room.specs.Stands.{call-room}
use Rattle.room.specs.Reports.{meaning, outcome_of, search_report, report-means, report-plain, Plain}
use Rattle.room.specs.declared.report.Outcome.{Outcome}

module _ (a : Arrays) (k : Sound a) where
  -- the values of the measures, as the code has them
  abbrev pub now_in : List ℤ
  now_in = now_at a.coefficients a.values

  agree : (m : ℕ) → get_or now_in m (pos 0) ≡ get_or (now (room_of a)) m (pos 0)
  agree = now-same a.coefficients a.values k.sizes.values a.measures k.fit.few k.zeros

  pub true_same : (c : Condition) → condition_true now_in c ≡ condition_true (now (room_of a)) c
  true_same c i = condition-same now_in (now (room_of a)) agree i c

  -- those that wait, and what the rules' search finds and counts
  abbrev pub waiting_in : List Waiter
  waiting_in = waiters 0 (room_of a).standings

  same-waiters : waiting_in ≡ waiters_in a.slots a.ticket a.entry
  same-waiters = waiters-same a k.waits

  found-is : found now_in (waiters_in a.slots a.ticket a.entry) ≡ found (now (room_of a)) waiting_in
  found-is = found-same now_in (now (room_of a)) agree (waiters_in a.slots a.ticket a.entry) ∙ ap (found (now (room_of a))) (sym same-waiters)

  evaluated-is : evaluated now_in (waiters_in a.slots a.ticket a.entry) ≡ evaluated (now (room_of a)) waiting_in
  evaluated-is = evaluated-same now_in (now (room_of a)) agree (waiters_in a.slots a.ticket a.entry) ∙ ap (evaluated (now (room_of a))) (sym same-waiters)

  module _ (standing entry places lengths : List ℕ) (r : Answer) (n : CallsNext a now_in standing entry places lengths r) where
    pub search-room : room_of (moved a standing entry places lengths) ≡ call (found (now (room_of a)) waiting_in) (room_of a)
    search-room = call-room a now_in standing entry places lengths r k.sizes n ∙ ap (λ f. call f (room_of a)) found-is

    pub search-report : (outcome : Outcome) → meaning (search_report outcome r)
        ≡ accepted (outcome_of outcome) (job_of (found (now (room_of a)) waiting_in)) (evaluated (now (room_of a)) waiting_in)
    search-report outcome = report-means a.slots a.ticket a.entry now_in outcome r n.answer-is ∙ (λ i. accepted (outcome_of outcome) (job_of (found-is i)) (evaluated-is i))

    pub search-plain : (outcome : Outcome) → Plain (search_report outcome r)
    search-plain outcome = report-plain a.slots a.ticket a.entry now_in outcome r n.answer-is

    -- who did not wait stands as he stood
    pub search-others : (job : ℕ) → eqb (get_or a.standing job 0) 3 ≡ false → get_or standing job 0 ≡ get_or a.standing job 0
    search-others job o = go r n.answer-is n.standing-is
      where
        go : (u : Answer) → u ≡ search_answer now_in (waiters_in a.slots a.ticket a.entry) → standing ≡ called_standing u a.standing → get_or standing job 0 ≡ get_or a.standing job 0
        go (Nobody count) e d = ap (λ l. get_or l job 0) d
        go (Calls j count) e d =
            ap (λ l. get_or l job 0) d
            ∙ get_or-set_other a.standing j job 4 0 (λ s. true-not-false (ap (λ x. eqb (get_or a.standing x 0) 3) s ∙ sym (k.waits j) ∙ lt-ltb 0 (get_or a.entry j 0) (called-waits a k now_in j count e)) o)

    -- who waits or is called did so before
    pub search-held : (job : ℕ) → 3 ≤ get_or standing job 0 → 3 ≤ get_or a.standing job 0
    search-held job h = go r n.answer-is n.standing-is
      where
        go : (u : Answer) → u ≡ search_answer now_in (waiters_in a.slots a.ticket a.entry) → standing ≡ called_standing u a.standing → 3 ≤ get_or a.standing job 0
        go (Nobody count) e d = omega (arith, h, ap (λ l. get_or l job 0) d)
        go (Calls j count) e d = by_eq job j
            (λ s. omega (arith, eqb-true (get_or a.standing j 0) 3 (sym (k.waits j) ∙ lt-ltb 0 (get_or a.entry j 0) (called-waits a k now_in j count e)), ap (λ x. get_or a.standing x 0) s))
            (λ s. omega (arith, h, ap (λ l. get_or l job 0) d, get_or-set_other a.standing j job 4 0 s))

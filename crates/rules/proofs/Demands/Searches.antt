-- Demands 2 and 3: which events make a search, and what those and the others report. A search reports the job found and the evaluated
-- count over the jobs that wait when it begins; an event without one reports no call and count 0.
use Rattle.std.specs.Prelude.{◌≡◌, refl, ◌↔◌, ℕ}
use Rattle.std.proofs.Common.{sym, ap, ◌∙◌, arith}
use Rattle.std.proofs.Math.Option.{Option, none, some}
use Rattle.std.proofs.lemmas.Bool.{lt-leb}
use Rattle.rules.specs.Limits.{tickets}
use Rattle.rules.specs.Condition.{Condition}
use Rattle.rules.specs.Room.{Room, Standing, waiting, standing, now, stand, give_ticket}
use Rattle.rules.specs.Search.{Pair, evaluated}
use Rattle.rules.specs.Step.{Event, Step, called_in, count_in, call, job_of, step}
use Rattle.rules.specs.Laws.In.{none-some, some_same}
use Rattle.rules.specs.Laws.Waiting.{waiters_of}
use Rattle.rules.specs.Laws.Stores.{kind}
use Rattle.rules.specs.Laws.Moves as moves
use Rattle.rules.proofs.Laws.Moves.{step-moves}
use Rattle.rules.specs.Demands.Calls.{found_in, NoneTrue}
use Rattle.rules.proofs.Demands.Calls.{called-only-if-true, nobody-exactly, stands-called}
use Rattle.rules.specs.Demands.Searches.{Searches, at-admit, at-wait, at-leave, ReportsSearch, CalledTruly}

pub search-reports : {r : Room} {e : Event} → Searches r e → ReportsSearch r e (job_of (found_in r)) (evaluated (now r) (waiters_of r))
search-reports (at-admit s o f) = (rw (s, o, f), rw (s, o, f))
search-reports {r} (at-wait s f l) = (rw (s, f, lt-leb tickets r.next_ticket l), rw (s, f, lt-leb tickets r.next_ticket l))
search-reports (at-leave s) = (rw s, rw s)

-- ---- an event that is no search
abbrev Quiet : Step → Type 0
Quiet s = (called_in s.report ≡ none) × (count_in s.report ≡ 0)

move-quiet : {r : Room} {e : Event} {s : Step} → moves.Move r e s → (Searches r e → ⊥) → Quiet s
move-quiet (moves.refused n l h) no-search = (refl, refl)
move-quiet (moves.arrives e) no-search = (refl, refl)
move-quiet (moves.goes_in e n) no-search = (refl, refl)
move-quiet (moves.comes-back-in e n h) no-search = (refl, refl)
move-quiet (moves.sent_back e n h) no-search = absurd (no-search (at-admit e n h))
move-quiet (moves.assigns e) no-search = (refl, refl)
move-quiet (moves.goes_on e h) no-search = (refl, refl)
move-quiet (moves.begins-to-wait e h l) no-search = absurd (no-search (at-wait e h l))
move-quiet (moves.leaves e) no-search = absurd (no-search (at-leave e))

pub no-search-reports : {r : Room} {e : Event} → (Searches r e → ⊥) → ReportsSearch r e none 0
no-search-reports {r} {e} = move-quiet (step-moves r e)

-- ---- called only if true, and nobody exactly if none is
job-none : (f : Option Pair) → job_of f ≡ none → f ≡ none
job-none none e = refl
job-none (some p) e = absurd (none-some (sym e))

pub search-calls-nobody-exactly : {r : Room} {e : Event} → Searches r e → (called_in (step r e).report ≡ none) ↔ NoneTrue r
search-calls-nobody-exactly {r} {e} s = (
  λ n. (nobody-exactly r).0 (job-none (found_in r) (sym (search-reports s).0 ∙ n)),
  λ n. (search-reports s).0 ∙ ap job_of ((nobody-exactly r).1 n),
)

found-truly : (r : Room) (i : ℕ) (s : Standing) → ((t : ℕ) (c : Condition) → standing r i ≡ waiting c t → ⊥) → (f : Option Pair) → found_in r ≡ f → (j : ℕ) → job_of f ≡ some j → CalledTruly r (stand i s (call f r)) j
found-truly r i s sits none e j d = absurd (none-some d)
found-truly r i s sits (some p) e j d =
    let k : p.waiter.job ≡ j = some_same d in
    let t = called-only-if-true r p e in
    record {
      condition = p.waiter.condition;
      ticket = p.waiter.ticket;
      waited = ap (standing r) (sym k) ∙ t.0;
      holds = t.1;
      stands = ap (standing (stand i s (call (some p) r))) (sym k) ∙ stands-called r i s sits p e;
    }

move-calls-truly : {r : Room} {e : Event} {s : Step} (j : ℕ) → moves.Move r e s → called_in s.report ≡ some j → CalledTruly r s.room j
move-calls-truly j (moves.refused n l h) d = absurd (none-some d)
move-calls-truly j (moves.arrives e) d = absurd (none-some d)
move-calls-truly j (moves.goes_in e n) d = absurd (none-some d)
move-calls-truly j (moves.comes-back-in e n h) d = absurd (none-some d)
move-calls-truly {r} j (moves.sent_back e n h) d = found-truly r _ _ (λ t c q. omega (arith, ap kind (sym e ∙ q))) (found_in r) refl j d
move-calls-truly j (moves.assigns e) d = absurd (none-some d)
move-calls-truly j (moves.goes_on e h) d = absurd (none-some d)
move-calls-truly {r} j (moves.begins-to-wait e h l) d =
    let c = found-truly (give_ticket r) _ _ (λ t c q. omega (arith, ap kind (sym e ∙ q))) (found_in r) refl j d in
    record { condition = c.condition; ticket = c.ticket; waited = c.waited; holds = c.holds; stands = c.stands }
move-calls-truly {r} j (moves.leaves e) d = found-truly r _ _ (λ t c q. omega (arith, ap kind (sym e ∙ q))) (found_in r) refl j d

pub step-calls-truly : (r : Room) (e : Event) (j : ℕ) → called_in (step r e).report ≡ some j → CalledTruly r (step r e).room j
step-calls-truly r e j = move-calls-truly j (step-moves r e)

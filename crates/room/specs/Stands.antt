-- A job's standing changes: the rules' room changes as `stand` says, and what the arrays keep is kept where the job neither waited nor waits now.
use Rattle.std.specs.Prelude.{◌≡◌, refl, false, List, ℕ, ◌<◌, ◌≤◌, eqb, ℤ, get_or, set}
use Rattle.std.proofs.Common.{sym, ap, ◌∙◌, arith, length-set, get_or-set_same, get_or-set_other}
use Rattle.std.proofs.Math.Option.{Option, none, some}
use Rattle.rules.specs.Laws.Cases.{by_eq}
use Rattle.rules.specs.Room.{called, stand}
use Rattle.rules.specs.Search.{Waiter, Pair, found, evaluated}
use Rattle.rules.specs.Step.{call}
use Rattle.condition.specs.Closes.{condition_in}
use Rattle.search.specs.Pairs.{waiters_in}
use Rattle.search.specs.Answers.{answer_for, search_answer}
use Rattle.search.specs.declared.Answer.{Answer}
use Rattle.search.specs.declared.Answer.TheVariants.{Calls, Nobody}
use Rattle.room.specs.Arrays.{Arrays, standing_of, room_of}
use Rattle.room.specs.Kept.{Sizes, Sound}
use Rattle.room.specs.Standings.{standings-set, code-called}
use Rattle.room.specs.Calls.{called_standing, moved, CallsNext, found-one}

-- the arrays with other standings
abbrev pub restood : Arrays → List ℕ → Arrays
restood a standing = moved a standing a.entry a.places a.lengths

module _ (a : Arrays) (job code : ℕ) (small : job < 32) (sizes : Sizes a) where
  here : get_or (set a.standing job code) job 0 ≡ code
  here = get_or-set_same a.standing job code 0 (omega (arith, sizes.standing))

  -- whatever else changed, but conditions and tickets
  pub room-stand : (entry places lengths : List ℕ) →
      room_of (moved a (set a.standing job code) entry places lengths) ≡ stand job (standing_of code (condition_in a.slots job) (get_or a.ticket job 0)) (room_of a)
  room-stand entry places lengths =
      let b = moved a (set a.standing job code) entry places lengths in
      let e = standings-set a b job (standing_of code (condition_in a.slots job) (get_or a.ticket job 0)) small
      (ap (λ x. standing_of x (condition_in a.slots job) (get_or a.ticket job 0)) here)
      (λ k l d. ap (λ x. standing_of x (condition_in a.slots k) (get_or a.ticket k 0)) (get_or-set_other a.standing job k code 0 d)) in
      λ i. record { measures = (room_of a).measures; values = a.values; standings = e i; next_ticket = a.next }

  -- neither waiting before nor now, nor called now
  pub sound-stand : Sound a → eqb (get_or a.standing job 0) 3 ≡ false → eqb code 3 ≡ false → code ≤ 2 → Sound (restood a (set a.standing job code))
  sound-stand k was is most = record {
    sizes = record { coefficients = k.sizes.coefficients; values = k.sizes.values; standing = length-set a.standing job code ∙ k.sizes.standing; ticket = k.sizes.ticket; slots = k.sizes.slots; high = k.sizes.high; low = k.sizes.low };
    fit = k.fit;
    some-measure = k.some-measure;
    ranges = k.ranges;
    zeros = k.zeros;
    tickets = k.tickets;
    codes = λ j. by_eq j job (λ d. rw (ap (λ x. get_or (set a.standing job code) x 0) d ∙ here) (omega arith)) (λ d. rw (get_or-set_other a.standing job j code 0 d) (k.codes j));
    index = k.index;
    waits = λ j. by_eq j job
        (λ d. k.waits j ∙ ap (λ x. eqb (get_or a.standing x 0) 3) d ∙ was ∙ sym is ∙ ap (λ x. eqb x 3) (sym here) ∙ ap (λ x. eqb (get_or (set a.standing job code) x 0) 3) (sym d))
        (λ d. k.waits j ∙ ap (λ x. eqb x 3) (sym (get_or-set_other a.standing job j code 0 d)));
    apart = λ i j g h. k.apart i j (held i g) (held j h);
    words = λ j h. by_eq j job
        (λ d. absurd (omega (arith, sym here ∙ ap (λ x. get_or (set a.standing job code) x 0) (sym d) ∙ h)))
        (λ d. k.words j (sym (get_or-set_other a.standing job j code 0 d) ∙ h));
  }
    where
      held : (j : ℕ) → 3 ≤ get_or (set a.standing job code) j 0 → 3 ≤ get_or a.standing j 0
      held j h = by_eq j job (λ d. absurd (omega (arith, rw (ap (λ x. get_or (set a.standing job code) x 0) d ∙ here) at h))) (λ d. rw (get_or-set_other a.standing job j code 0 d) at h)

-- ---- a search that called made the rules' room as `call` says
module _ (a : Arrays) (now : List ℤ) (standing entry places lengths : List ℕ) (r : Answer) (sizes : Sizes a) (n : CallsNext a now standing entry places lengths r) where
  abbrev ws : List Waiter
  ws = waiters_in a.slots a.ticket a.entry

  called-room : (u : Answer) → u ≡ search_answer now ws → standing ≡ called_standing u a.standing → room_of (moved a standing entry places lengths) ≡ call (found now ws) (room_of a)
  called-room (Calls job count) e d =
      let f = found-one a.slots a.ticket a.entry now job count e in
      ap (λ l. room_of (moved a l entry places lengths)) d
      ∙ room-stand a job 4 f.small sizes entry places lengths
      ∙ ap (λ s. stand job s (room_of a)) (code-called (condition_in a.slots job) (get_or a.ticket job 0) 4 refl)
      ∙ (λ i. stand (sym f.waiter-is i).job (called (sym f.waiter-is i).condition (sym f.waiter-is i).ticket) (room_of a))
      ∙ ap (λ g. call g (room_of a)) (sym f.found-is)
  called-room (Nobody count) e d =
      ap (λ l. room_of (moved a l entry places lengths)) d ∙ go (found now ws) refl e
    where
      go : (g : Option Pair) → found now ws ≡ g → Nobody count ≡ answer_for g (evaluated now ws) → room_of (moved a a.standing entry places lengths) ≡ call (found now ws) (room_of a)
      go none h q = ap (λ g. call g (room_of a)) (sym h)
      go (some p) h q = let z : ◌≡◌ {A = ℕ} 0 1 = cc in absurd (omega arith)

  pub call-room : room_of (moved a standing entry places lengths) ≡ call (found now ws) (room_of a)
  call-room = called-room r n.answer-is n.standing-is

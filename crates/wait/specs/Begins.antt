-- A job begins to wait: its condition and its ticket are stored where nobody looks while it is not in the index, and then it joins.
use Rattle.std.specs.Prelude.{◌≡◌, refl, false, List, ℕ, suc, ◌+◌, ◌*◌, ◌<◌, ◌≤◌, eqb}
use Rattle.std.proofs.Common.{sym, ap, ◌∙◌, subst, arith, eqb-true, eq-eqb, ne_eqb, ltb-false, lt-ltb, get_or-set_same, get_or-set_other}
use Rattle.std.proofs.Math.Option.{Option, none, some}
use Rattle.std.proofs.lemmas.Bool.{lt-leb}
use lib.ListN.{get_or, set, length-set}
use Rattle.std.proofs.lemmas.List.Edits.{sets}
use Rattle.rules.specs.Laws.Cases.{by_eq}
use Rattle.rules.specs.Limits.{tickets}
use Rattle.rules.specs.Condition.{condition_true}
use Rattle.rules.specs.Room.{Room, stand, waiting, now, give_ticket}
use Rattle.rules.specs.Search.{Pair, found}
use Rattle.rules.specs.Step.{call}
use Rattle.condition.specs.Measures.{now_at}
use Rattle.condition.specs.From.{from}
use Rattle.condition.specs.Closing.{ClosedSlots, GivenSlots, put_closed}
use Rattle.condition.specs.Closes.{Sized, condition_in, closes}
use Rattle.ranks.specs.Words.{high_word, low_word}
use Rattle.entries.specs.Entries.{Waits}
use Rattle.index.specs.Filed.{tag_in}
use Rattle.index.specs.Index.{Index}
use Rattle.index.specs.Changes.{WordsOf, JoinedIndex}
use Rattle.index.specs.Elsewhere.{tag-kept, index-elsewhere}
use Rattle.search.specs.Live.{SlotsFit}
use Rattle.search.specs.declared.Answer.{Answer}
use Rattle.search.specs.declared.Answer.TheVariants.{Calls, Nobody}
use Rattle.room.specs.Arrays.{Arrays, arrays, standing_at, room_of}
use Rattle.room.specs.Stores.{store_of, begun, store_waited}
use Rattle.room.specs.Kept.{Sound}
use Rattle.room.specs.Standings.{standings-set, code-waiting}
use Rattle.room.specs.Calls.{moved, CallsNext}
use Rattle.room.specs.Tickets.{with_next, calls-next}
use Rattle.room.specs.Reports.{Report, meaning, search_report, search-not, Plain}
use Rattle.room.specs.Searches.{waiting_in, search-room, search-report, search-plain, search-others, search-held}
use Rattle.room.specs.Joins.{MayJoin}
use Rattle.room.specs.Assigns.{inside-test}
use Rattle.wait.specs.Stored.{stored-sized, stored-fit, stored-counts, stored_same, stored-conditions, words_long, words-here, words-elsewhere}
use Rattle.wait.specs.Waits.{GivenFit, Waited, waits_for, true-is}
use Rattle.room.specs.declared.report.Outcome.TheVariants as outcome

give-call : (f : Option Pair) (r : Room) → give_ticket (call f r) ≡ call f (give_ticket r)
give-call none r = refl
give-call (some p) r = refl

search-fills : (a : Arrays) (job : ℕ) (g : GivenSlots) (r : Answer) →
    store_waited a job g (meaning (search_report outcome.Waits r)) ≡ begun a job g
search-fills a job g (Calls called count) = refl
search-fills a job g (Nobody count) = refl

module _ (a : Arrays) (k : Sound a) (job : ℕ) (small : job < 32) (g : GivenSlots) (fit : GivenFit a.measures g) (inside : get_or a.standing job 0 ≡ 2)
    (given : (j : ℕ) → 3 ≤ get_or a.standing j 0 → get_or a.ticket j 0 < a.next)
    (st entry places lengths : List ℕ) (r : Answer) (n₀ : CallsNext (with_next a 0) (now_at a.coefficients a.values) st entry places lengths r)
    (s' : ClosedSlots) (is : s' ≡ put_closed job a.slots g) where
  n : CallsNext a (now_at a.coefficients a.values) st entry places lengths r
  n = calls-next (with_next a 0) a.next (now_at a.coefficients a.values) st entry places lengths r n₀

  stays : get_or st job 0 ≡ 2
  stays = search-others a k st entry places lengths r n job (ne_eqb (get_or a.standing job 0) 3 (λ e. omega (arith, e))) ∙ inside

  out : get_or entry job 0 ≡ 0
  out = omega (arith, ltb-false 0 (get_or entry job 0) (n.sound.waits job ∙ ne_eqb (get_or st job 0) 3 (λ e. omega (arith, e, stays))))

  abbrev t' : List ℕ
  t' = set a.ticket job a.next

  ticket-here : get_or t' job 0 ≡ a.next
  ticket-here = get_or-set_same a.ticket job a.next 0 (omega (arith, k.sizes.ticket))

  ticket-other : (j : ℕ) → (j ≡ job → ⊥) → get_or t' j 0 ≡ get_or a.ticket j 0
  ticket-other j d = get_or-set_other a.ticket job j a.next 0 d

  pub new-fit : SlotsFit a.measures s'
  new-fit = subst (SlotsFit a.measures) (sym is) (stored-fit job a.slots g a.measures k.fit fit.measure fit.operator fit.coefficients fit.locals fit.constant)

  new-counts : (j : ℕ) → (j ≡ job → ⊥) → get_or s'.alternatives j 0 ≡ get_or a.slots.alternatives j 0
  new-counts j d = ap (λ (s : ClosedSlots). get_or s.alternatives j 0) is ∙ stored-counts job a.slots g j d

  new-conditions : (j : ℕ) → (j ≡ job → ⊥) → condition_in s' j ≡ condition_in a.slots j
  new-conditions j d = ap (λ s. condition_in s j) is ∙ stored-conditions job a.slots g small k.sizes.slots j d

  new-condition : condition_in s' job ≡ waits_for a k job small g
  new-condition = ap (λ s. condition_in s job) is ∙ closes job small a.slots k.sizes.slots g fit.four

  module _ (high' low' : List ℕ) (high_is : high' ≡ sets a.high (job * 4) (from (λ i. high_word (tag_in s' (job * 4 + i))) 4 0)) (low-is : low' ≡ sets a.low (job * 4) (from (λ i. low_word a.next i) 4 0)) where
    highs : (j i : ℕ) → (j ≡ job → ⊥) → i < 4 → get_or high' (j * 4 + i) 0 ≡ get_or a.high (j * 4 + i) 0
    highs j i d p = ap (λ l. get_or l (j * 4 + i) 0) high_is ∙ words-elsewhere job a.high (λ i. high_word (tag_in s' (job * 4 + i))) j i d p

    lows : (j i : ℕ) → (j ≡ job → ⊥) → i < 4 → get_or low' (j * 4 + i) 0 ≡ get_or a.low (j * 4 + i) 0
    lows j i d p = ap (λ l. get_or l (j * 4 + i) 0) low-is ∙ words-elsewhere job a.low (λ i. low_word a.next i) j i d p

    few : (k : ℕ) → get_or a.slots.operator k 0 ≤ 255
    few j = omega (arith, k.fit.operator j)

    few' : (k : ℕ) → get_or s'.operator k 0 ≤ 255
    few' j = omega (arith, new-fit.operator j)

    same : (j i : ℕ) → (j ≡ job → ⊥) → i < 4 → Rattle.condition.specs.Closed.alternative_at s'.atoms s'.measure s'.operator s'.key (j * 4 + i)
        ≡ Rattle.condition.specs.Closed.alternative_at a.slots.atoms a.slots.measure a.slots.operator a.slots.key (j * 4 + i)
    same j i d p = ap (λ (s : ClosedSlots). Rattle.condition.specs.Closed.alternative_at s.atoms s.measure s.operator s.key (j * 4 + i)) is ∙ stored_same job a.slots g small k.sizes.slots j i d p

    -- ---- it may join
    pub new-index : Index s' t' entry high' low' places lengths
    new-index = index-elsewhere a.slots s' a.ticket t' entry a.high a.low high' low' places lengths job out few few' new-counts same new-conditions ticket-other highs lows n.sound.index

    new-words : WordsOf s' t' high' low' job
    new-words i p = (
      ap (λ l. get_or l (job * 4 + i) 0) high_is ∙ words-here job a.high (λ i. high_word (tag_in s' (job * 4 + i))) small k.sizes.high i p,
      ap (λ l. get_or l (job * 4 + i) 0) low-is ∙ words-here job a.low (λ i. low_word a.next i) small k.sizes.low i p ∙ ap (λ t. low_word t i) (sym ticket-here),
    )

    new_apart : (j : ℕ) → Waits entry j → get_or t' j 0 ≡ get_or t' job 0 → ⊥
    new_apart j w e =
        let three = eqb-true (get_or st j 0) 3 (sym (n.sound.waits j) ∙ lt-ltb 0 (get_or entry j 0) w) in
        by_eq j job (λ s. omega (arith, out, ap (λ x. get_or entry x 0) s))
        (λ s. omega (arith, ticket-here, ticket-other j s, given j (search-held a k st entry places lengths r n j (omega (arith, three)))))

    pub may-join : MayJoin s' t' high' low' entry job
    may-join = record { out = out; apart = new_apart; words = new-words }

    -- ---- it joined
    module _ (left : a.next < tickets) (entry' places' lengths' : List ℕ) (joined : JoinedIndex s' t' high' low' job entry entry' places' lengths') where
      abbrev b : Arrays
      b = arrays a.coefficients a.values (set st job 3) t' s' entry' high' low' places' lengths' a.measures (a.next + 1)

      here : get_or (set st job 3) job 0 ≡ 3
      here = get_or-set_same st job 3 0 (omega (arith, n.sound.sizes.standing))

      there : (j : ℕ) → (j ≡ job → ⊥) → get_or (set st job 3) j 0 ≡ get_or st j 0
      there j d = get_or-set_other st job j 3 0 d

      below : (j : ℕ) → (j ≡ job → ⊥) → 3 ≤ get_or (set st job 3) j 0 → get_or t' j 0 < a.next
      below j d h = omega (arith, ticket-other j d, given j (search-held a k st entry places lengths r n j (omega (arith, h, there j d))))

      new-sound : Sound b
      new-sound = record {
        sizes = record {
          coefficients = k.sizes.coefficients;
          values = k.sizes.values;
          standing = length-set st job 3 ∙ n.sound.sizes.standing;
          ticket = length-set a.ticket job a.next ∙ k.sizes.ticket;
          slots = subst Sized (sym is) (stored-sized job a.slots g k.sizes.slots);
          high = ap lib.ListN.length high_is ∙ words_long job a.high (λ i. high_word (tag_in s' (job * 4 + i))) ∙ k.sizes.high;
          low = ap lib.ListN.length low-is ∙ words_long job a.low (λ i. low_word a.next i) ∙ k.sizes.low;
        };
        fit = new-fit;
        some-measure = k.some-measure;
        ranges = record { coefficients = k.ranges.coefficients; values = k.ranges.values; keys = new-fit.key };
        zeros = k.zeros;
        tickets = λ j. by_eq j job (λ d. omega (arith, ap (λ x. get_or t' x 0) d, ticket-here)) (λ d. omega (arith, ticket-other j d, k.tickets j));
        codes = λ j. by_eq j job (λ d. omega (arith, ap (λ x. get_or (set st job 3) x 0) d, here)) (λ d. omega (arith, there j d, n.sound.codes j));
        index = joined.index;
        waits = λ j. by_eq j job
            (λ d. joined.waits j ∙ rw (eq-eqb j job d) (sym (ap (λ x. eqb x 3) (ap (λ x. get_or (set st job 3) x 0) d ∙ here))))
            (λ d. joined.waits j ∙ rw (ne_eqb j job d) (n.sound.waits j ∙ ap (λ x. eqb x 3) (sym (there j d))));
        apart = λ i j p q e. by_eq i job
            (λ d. by_eq j job (λ f. d ∙ sym f) (λ f. absurd (omega (arith, ap (λ x. get_or t' x 0) d, ticket-here, below j f q))))
            (λ d. by_eq j job (λ f. absurd (omega (arith, ap (λ x. get_or t' x 0) f, ticket-here, below i d p)))
            (λ f. n.sound.apart i j (omega (arith, p, there i d)) (omega (arith, q, there j f)) (sym (ticket-other i d) ∙ e ∙ ticket-other j f)));
        words = λ j h. by_eq j job
            (λ d. absurd (omega (arith, h, ap (λ x. get_or (set st job 3) x 0) d, here)))
            (λ d i p. let w = n.sound.words j (sym (there j d) ∙ h) i p in (
              highs j i d p ∙ w.0 ∙ ap high_word (sym (tag-kept a.slots s' a.ticket t' entry a.high a.low high' low' places lengths job out few few' new-counts same new-conditions ticket-other highs lows j i d p)),
              lows j i d p ∙ w.1 ∙ ap (λ t. low_word t i) (sym (ticket-other j d)),
            ));
      }

      new-standings : from (standing_at b) 32 0 ≡ set (from (standing_at (moved a st entry places lengths)) 32 0) job (waiting (waits_for a k job small g) a.next)
      new-standings = standings-set (moved a st entry places lengths) b job (waiting (waits_for a k job small g) a.next) small
          (code-waiting (condition_in s' job) (get_or t' job 0) (get_or (set st job 3) job 0) here ∙ (λ i. waiting (new-condition i) (ticket-here i)))
          (λ j l d. (λ i. Rattle.room.specs.Arrays.standing_of (there j d i) (new-conditions j d i) (ticket-other j d i)))

      new-room : room_of b ≡ stand job (waiting (waits_for a k job small g) a.next) (call (found (now (room_of a)) (waiting_in a k)) (give_ticket (room_of a)))
      new-room =
          let one : a.next + 1 ≡ suc a.next = omega arith in
          let mid : room_of b ≡ give_ticket (stand job (waiting (waits_for a k job small g) a.next) (room_of (moved a st entry places lengths))) =
          (λ i. record { measures = (room_of a).measures; values = a.values; standings = new-standings i; next_ticket = one i }) in
          mid ∙ ap (λ x. give_ticket (stand job (waiting (waits_for a k job small g) a.next) x)) (search-room a k st entry places lengths r n)
          ∙ ap (stand job (waiting (waits_for a k job small g) a.next)) (give-call (found (now (room_of a)) (waiting_in a k)) (room_of a))

      new-store : store_of b ≡ begun a job g
      new-store = λ i. record {
        coefficients = a.coefficients;
        measures = a.measures;
        ticket = t';
        slots = is i;
        high = (high_is ∙ ap (λ s. sets a.high (job * 4) (from (λ p. high_word (tag_in s (job * 4 + p))) 4 0)) is) i;
        low = low-is i;
      }

      pub begins : condition_true (now_at a.coefficients a.values) (waits_for a k job small g) ≡ false →
          {u : Report} → u ≡ search_report outcome.Waits r → Waited a b job g u
      begins f {u} e =
          let test = inside-test a k job small ∙ eq-eqb (get_or a.standing job 0) 2 inside in
          let no = true-is a k job small g inside (sym f) in
          let few = lt-leb tickets a.next left in
          record {
            stepped = record {
              report = rw (test, no, few) (ap meaning e ∙ search-report a k st entry places lengths r n outcome.Waits);
              room = rw (test, no, few) new-room;
              sound = new-sound;
              same = λ m o. absurd (search-not outcome.Waits r (sym e ∙ o));
              plain = subst Plain (sym e) (search-plain a k st entry places lengths r n outcome.Waits);
            };
            store = new-store ∙ sym (ap (λ x. store_waited a job g (meaning x)) e ∙ search-fills a job g r);
          }

-- Two indexes of the same waiting jobs answer every search alike, wherever their nodes stand: the entries are the same (`index-unique`), and the rules'
-- search asks for nothing else. So the contracts of join and part, which leave the places in a heap open, leave no answer open.
use Rattle.std.specs.Prelude.{◌≡◌, List, ℕ, ◌^◌, ◌<◌, ltb, ℤ, pos, get_or}
use Rattle.std.proofs.Common.{sym, ap, ◌∙◌}
use Rattle.rules.specs.Laws.Bounds.{Within}
use Rattle.condition.specs.Closing.{ClosedSlots}
use Rattle.ranks.specs.Words.{key_room}
use Rattle.index.specs.Index.{Index}
use Rattle.index.specs.Unique.{index-unique}
use Rattle.walk.specs.Walks.{walked}
use Rattle.search.specs.Answers.{search_answer, as_answer}
use Rattle.search.specs.Pairs.{waiters_in}
use Rattle.search.specs.Live.{SlotsFit, Searchable}
use Rattle.search.specs.Whole.{walk_order}
use Rattle.search.specs.Rules.{test, search-is-the-rules-search}

module _ (measures : ℕ) (slots : ClosedSlots) (ticket high low : List ℕ) (now : List ℤ) (fit : SlotsFit measures slots) (ticket-fits : (k : ℕ) → get_or ticket k 0 < 2 ^ 32)
    (room : (m : ℕ) → Within key_room (get_or now m (pos 0))) where
  -- a search of one index of these jobs
  abbrev pub search_of : (entry places lengths : List ℕ) → Index slots ticket entry high low places lengths → Searchable
  search_of entry places lengths index = record {
    measures = measures;
    slots = slots;
    ticket = ticket;
    entry = entry;
    high = high;
    low = low;
    places = places;
    lengths = lengths;
    now = now;
    fit = fit;
    index = index;
    ticket-fits = ticket-fits;
    room = room;
  }

  module _ (entry entry' places places' lengths lengths' : List ℕ) (index : Index slots ticket entry high low places lengths) (index' : Index slots ticket entry' high low places' lengths') where
    abbrev q : Searchable
    q = search_of entry places lengths index

    abbrev r : Searchable
    r = search_of entry' places' lengths' index'

    pub searches-alike : ((j : ℕ) → ltb 0 (get_or entry j 0) ≡ ltb 0 (get_or entry' j 0)) → as_answer (walked (test q) (walk_order q)) ≡ as_answer (walked (test r) (walk_order r))
    searches-alike waits =
        let same = index-unique slots ticket high low entry entry' places places' lengths lengths' index index' waits in
        search-is-the-rules-search q ∙ ap (λ e. search_answer now (waiters_in slots ticket e)) same.entries ∙ sym (search-is-the-rules-search r)

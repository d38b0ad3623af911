-- Arrays that are the index of some jobs that wait: what a search asks of a room. Who they are is not in the arrays that it reads.
use Rattle.std.specs.Prelude.{List, ℕ, ◌^◌, ◌<◌, ℤ, get_or}
use Rattle.condition.specs.Measures.{Ranges, now_at}
use Rattle.condition.specs.Closing.{closed_slots}
use Rattle.filing.specs.Filed.{measures-within}
use Rattle.index.specs.Index.{Index}
use Rattle.search.specs.Live.{SlotsFit, Searchable}

pub record Indexed (measures : ℕ) (atoms measure operator : List ℕ) (key : List ℤ) (high low places lengths : List ℕ) : Type 0 where
  pub alternatives : List ℕ
  pub ticket : List ℕ
  pub entry : List ℕ
  pub fit : SlotsFit measures (closed_slots alternatives atoms measure operator key)
  pub index : Index (closed_slots alternatives atoms measure operator key) ticket entry high low places lengths
  pub ticket-fits : (k : ℕ) → get_or ticket k 0 < 2 ^ 32

module _ (measures : ℕ) (atoms measure operator : List ℕ) (key : List ℤ) (high low places lengths : List ℕ) (coefficients values : List ℤ) where
  abbrev pub searchable : Ranges coefficients values key → Indexed measures atoms measure operator key high low places lengths → Searchable
  searchable ranges i = record {
    measures = measures;
    slots = closed_slots i.alternatives atoms measure operator key;
    ticket = i.ticket;
    entry = i.entry;
    high = high;
    low = low;
    places = places;
    lengths = lengths;
    now = now_at coefficients values;
    fit = i.fit;
    index = i.index;
    ticket-fits = i.ticket-fits;
    room = measures-within coefficients values ranges.coefficients ranges.values;
  }

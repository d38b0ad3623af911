-- What a room's arrays hold beside values, standings, next ticket and index: the opening's coefficients, and of every job a ticket, a closed condition and
-- rank words, also where nobody looks at them because the job neither waits nor is called. A Wait that begins to wait fills those of its job, with 0 in the
-- slots of parts that the condition does not have; no other event touches one.
use Rattle.std.specs.Prelude.{List, ℕ, ◌+◌, ◌*◌, ℤ, set}
use Rattle.std.proofs.lemmas.List.Edits.{sets}
use Rattle.rules.specs.Number.{Read, read, refused}
use Rattle.rules.specs.Step.{Event, arrive, admit, leave, assign, wait, done, enters, waits, on, back, accepted, refusal, nothing}
use Rattle.rules.specs.Step as rules
use Rattle.condition.specs.From.{from}
use Rattle.condition.specs.Closing.{ClosedSlots, GivenSlots, put_closed}
use Rattle.ranks.specs.Words.{high_word, low_word}
use Rattle.given.specs.Taken.{slots_for}
use Rattle.index.specs.Filed.{tag_in}
use Rattle.room.specs.Arrays.{Arrays}

pub record Store : Type 0 where
  pub coefficients : List ℤ
  pub measures : ℕ
  pub ticket : List ℕ
  pub slots : ClosedSlots
  pub high : List ℕ
  pub low : List ℕ

abbrev pub store_of : Arrays → Store
store_of a = record { coefficients = a.coefficients; measures = a.measures; ticket = a.ticket; slots = a.slots; high = a.high; low = a.low }

-- a job began to wait, for the condition in these slots, with the next ticket
abbrev pub begun : Arrays → ℕ → GivenSlots → Store
begun a job g = record {
  coefficients = a.coefficients;
  measures = a.measures;
  ticket = set a.ticket job a.next;
  slots = put_closed job a.slots g;
  high = sets a.high (job * 4) (from (λ i. high_word (tag_in (put_closed job a.slots g) (job * 4 + i))) 4 0);
  low = sets a.low (job * 4) (from (λ i. low_word a.next i) 4 0);
}

-- after a Wait with these slots and this report
abbrev pub store_waited : Arrays → ℕ → GivenSlots → rules.Report → Store
store_waited a job g (accepted waits called count) = begun a job g
store_waited a job g (accepted done called count) = store_of a
store_waited a job g (accepted enters called count) = store_of a
store_waited a job g (accepted on called count) = store_of a
store_waited a job g (accepted back called count) = store_of a
store_waited a job g (refusal k) = store_of a
store_waited a job g nothing = store_of a

-- after an event, or after bytes that were refused, with this report
abbrev pub store_after : Arrays → Read Event → rules.Report → Store
store_after a (read (wait job locals condition) rest) r = store_waited a job (slots_for locals condition) r
store_after a (read (arrive job) rest) r = store_of a
store_after a (read (admit job) rest) r = store_of a
store_after a (read (leave job) rest) r = store_of a
store_after a (read (assign job variable value) rest) r = store_of a
store_after a (refused k) r = store_of a

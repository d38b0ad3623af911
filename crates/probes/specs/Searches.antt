-- Each case of a search's answer as plain numbers: document 01's called job and evaluated count; calls is 0 where nobody is called, and so is the job.
use Rattle.std.specs.Prelude.{◌≡◌, ℕ}
use Rattle.search.specs.declared.Answer.{Answer}
use Rattle.search.specs.declared.Answer.TheVariants.{Calls, Nobody}
use Rattle.probes.specs.declared.indexing.Searched.{Searched}

abbrev pub plain_search : Answer → Searched
plain_search (Calls job count) = record { calls = 1; job = job; evaluated = count }
plain_search (Nobody count) = record { calls = 0; job = 0; evaluated = count }

-- as the code has it: the answer was found to be of this case
pub plain-calls : {a : Answer} {job count : ℕ} → a ≡ Calls job count → record { calls = 1; job = job; evaluated = count } ≡ plain_search a
plain-calls e = rw e

pub plain-nobody : {a : Answer} {count : ℕ} → a ≡ Nobody count → record { calls = 0; job = 0; evaluated = count } ≡ plain_search a
plain-nobody e = rw e

-- What the index asks of a job that is to join it, as Wait and Admit show it.
use Rattle.std.specs.Prelude.{◌≡◌, List, ℕ, get_or}
use Rattle.condition.specs.Closing.{ClosedSlots}
use Rattle.entries.specs.Entries.{Waits}
use Rattle.index.specs.Changes.{WordsOf}

-- what `join` asks of a job: it is not in the index, no waiting job has its ticket, and its rank words are there
pub record MayJoin (slots : ClosedSlots) (ticket high low entry : List ℕ) (job : ℕ) : Type 0 where
  pub out : get_or entry job 0 ≡ 0
  pub apart : (j : ℕ) → Waits entry j → get_or ticket j 0 ≡ get_or ticket job 0 → ⊥
  pub words : WordsOf slots ticket high low job

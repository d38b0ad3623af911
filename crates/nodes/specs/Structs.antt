-- What the struct of src/lib.rt holds, by the definition over its arrays.
use Rattle.std.specs.Prelude.{ℕ}
use Rattle.nodes.specs.Ranks.{rank}
use Rattle.nodes.specs.declared.Ranks.{Ranks}

abbrev pub rank_in : Ranks → ℕ → ℕ
rank_in r = rank r.high r.low

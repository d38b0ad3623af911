-- `cut_nodes` meets its contract: the first i nodes are out of their homes, and the others are there still.
use Rattle.std.proofs.Common.{ℕ, ◌<◌, ◌≤◌, get_or}
use Rattle.nodes.specs.Structs.{rank_in}
use Rattle.index.specs.Mine.{mine}
use Rattle.index.specs.Nodes.{TakenOut}
use Rattle.index.specs.Structs.{home_by}
use Rattle.index.proofs.alternatives.cut_nodes.Given as goal

abbrev pub invariant-loop-i : goal.invariant-loop-i
invariant-loop-i l =
    ((h : ℕ) → h < 34 → get_or l.homes.lengths h 0 ≤ 128)
    × TakenOut (rank_in l.ranks) (home_by l.conditions) (mine l.job l.i) l.fn.homes.places l.fn.homes.lengths l.homes.places l.homes.lengths

-- A heap and a row each have their place over another.
use Rattle.std.proofs.Common.{rules}
use Rattle.homes.specs.Orders.{pushed-heap, pushed_row}
use Rattle.homes.proofs.set_in.Goals as goal

pub returns-then-home-lt32 : goal.returns-then-home-lt32
returns-then-home-lt32 c = search (rules, pushed-heap)

pub returns-else-home-lt32 : goal.returns-else-home-lt32
returns-else-home-lt32 c = search (rules, pushed_row)

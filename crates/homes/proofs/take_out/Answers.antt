-- A heap and a row each have their place over another.
use Rattle.std.proofs.Common.{rules}
use Rattle.homes.specs.Orders.{removed-heap, removed-row}
use Rattle.homes.proofs.take_out.Goals as goal

pub returns-then-home-lt32 : goal.returns-then-home-lt32
returns-then-home-lt32 c = search (rules, removed-heap)

pub returns-else-home-lt32 : goal.returns-else-home-lt32
returns-else-home-lt32 c = search (rules, removed-row)

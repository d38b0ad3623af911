-- What stands between events, in every room that came from an accepted opening and events: the ranges, 32 jobs of which at most one
-- is inside, tickets apart and below the next, conditions that fit the room, and the relay. Proved for each move.
use Rattle.std.specs.Prelude.{◌≡◌, ℕ, ◌≤◌, length}
use Rattle.rules.specs.Limits.{jobs, variables, measures_most, value_most, coefficient_most, tickets}
use Rattle.rules.specs.Room.{Room, Standing, outside, door, inside, waiting, called, standing}
use Rattle.rules.specs.Laws.Bounds.{Each}
use Rattle.rules.specs.Laws.WellFormed.{Numbers, ConditionFits}
use Rattle.rules.specs.Demands.Relay.{Relay}
use Rattle.rules.specs.Demands.Tickets.{TicketsApart}

abbrev pub StandingFits : ℕ → Standing → Type 0
StandingFits n outside = Unit {0}
StandingFits n door = Unit {0}
StandingFits n inside = Unit {0}
StandingFits n (waiting c t) = ConditionFits n c
StandingFits n (called c t) = ConditionFits n c

pub record Invariant (r : Room) : Type 0 where
  pub measures : (1 ≤ length r.measures) × (length r.measures ≤ measures_most)
  pub coefficients : Each (Numbers variables coefficient_most) r.measures
  pub values : Numbers variables value_most r.values
  pub jobs-stand : length r.standings ≡ jobs
  pub one_inside : (j k : ℕ) → standing r j ≡ inside → standing r k ≡ inside → j ≡ k
  pub tickets-apart : TicketsApart r
  pub tickets-given : r.next_ticket ≤ tickets
  pub conditions : (k : ℕ) → StandingFits (length r.measures) (standing r k)
  pub relay : Relay r

-- The tickets that jobs hold are below the next one, and no two jobs hold one: a new ticket is the next one, and a search and a
-- sending back move a job's ticket with it.
use Rattle.std.specs.Prelude.{◌≡◌, ℕ, ◌<◌}
use Rattle.std.proofs.Math.Option.{Option, none, some}
use Rattle.rules.specs.Room.{Room, Standing, outside, door, inside, waiting, called, standing}

abbrev pub ticket_of : Standing → Option ℕ
ticket_of outside = none
ticket_of door = none
ticket_of inside = none
ticket_of (waiting c t) = some t
ticket_of (called c t) = some t

-- job k holds ticket t
abbrev pub Has : Room → ℕ → ℕ → Type 0
Has r k t = ticket_of (standing r k) ≡ some t

pub record Tickets (n : ℕ) (r : Room) : Type 0 where
  pub given : (k t : ℕ) → Has r k t → t < n
  pub apart : (k m t : ℕ) → Has r k t → Has r m t → k ≡ m

abbrev pub TicketsApart : Room → Type 0
TicketsApart r = Tickets r.next_ticket r

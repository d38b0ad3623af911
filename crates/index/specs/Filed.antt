-- What the homes hold, all of them: every home has exactly the nodes that belong there, each once, in order, and 0 past them.
use Rattle.std.specs.Prelude.{◌≡◌, Bool, ◌&&◌, List, ℕ, ◌+◌, ◌*◌, ◌<◌, ◌/◌, ◌%◌, min, eqb, ltb, get_or, length}
use Rattle.std.proofs.Math.Option.{Option}
use Rattle.std.proofs.Common.{arith}
use Rattle.rules.specs.Condition.{Atom}
use Rattle.condition.specs.Closing.{ClosedSlots}
use Rattle.condition.specs.Tags.{tag_at, tag_means}
use Rattle.filing.specs.Homes.{home_at}
use Rattle.nodes.specs.Counts.{bit}
use Rattle.homes.specs.Moves.{times_in_home, HomeInOrder, Cleared}
use Rattle.entries.specs.Entries.{is_lead}

-- ---- of the nodes of closed slots: home and tag of node x, and the number of job j's nodes
abbrev pub home_in : ClosedSlots → ℕ → ℕ
home_in s x = home_at s.measure s.operator (tag_at s.atoms s.operator x)

abbrev pub tag_in : ClosedSlots → ℕ → Option Atom
tag_in s x = tag_means s.measure s.operator s.key (tag_at s.atoms s.operator x)

abbrev pub alternatives_in : ClosedSlots → ℕ → ℕ
alternatives_in s j = min (get_or s.alternatives j 0) 4

-- a node tells its job and its alternative
pub node-parts : (x : ℕ) → x / 4 * 4 + x % 4 ≡ x
node-parts x = omega arith

-- node x is an alternative of a lead
abbrev pub is_node : ClosedSlots → List ℕ → ℕ → Bool
is_node s entry x = is_lead entry (x / 4) && ltb (x % 4) (alternatives_in s (x / 4))

pub record Filed (rank home : ℕ → ℕ) (node : ℕ → Bool) (places lengths : List ℕ) : Type 0 where
  pub has : (h x : ℕ) → h < 34 → times_in_home places lengths h x ≡ bit (node x && eqb (home x) h)
  pub order : (h : ℕ) → h < 34 → HomeInOrder rank places lengths h
  pub cleared : (h : ℕ) → h < 34 → Cleared places lengths h
  pub long : length places ≡ 4352
  pub many : length lengths ≡ 34

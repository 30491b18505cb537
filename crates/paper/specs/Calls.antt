-- The calls of a board as values, with their arguments, and what they are answered.
use Rattle.std.specs.Prelude.{ℕ, List}
use Rattle.routing.specs.declared.refusal.Refusal.{Refusal}
use Rattle.routing.specs.Net.{Pos}
use Rattle.tables.specs.declared.row.Row.{Row}
use Rattle.judging.specs.declared.shown.Ending.{Ending}
use Rattle.paper.specs.declared.change.Change.{Change}
use Rattle.paper.specs.declared.numbers.Numbers.{Numbers}
use Rattle.paper.specs.declared.room.Room.{Room}

-- A ticket is what its numbers are; the lists that a call is lent are what their lengths are.
pub data Call : Type 0 where
  adopt : List Row → Room → Call
  propose : Change → Call
  revise : Numbers → Change → Call
  admit : Numbers → Room → Call
  withdraw : Numbers → Call
  -- How many proposals are open?
  ask_open : Call

-- What is shown of a rule that breaks: no route, or the positions of one with its ending.
pub data Showing : Type 0 where
  no_route : Showing
  a_route : List Pos → Ending → Showing

-- A rule breaks: its number, from 0, the entry at which it does, the setting of the conditions, and what is shown of it.
pub record Failure : Type 0 where
  pub rule : ℕ
  pub at : Pos
  pub shown : Showing

pub data Answer : Type 0 where
  refused : Refusal → Answer
  -- Adopted, with the rounds of the table.
  adopted : ℕ → Answer
  -- The ticket.
  proposed : Numbers → Answer
  revised : Numbers → Answer
  -- The change stands; the rounds are summed over the rules.
  stood : ℕ → Answer
  -- Judged and turned down (25), of adopt and of admit.
  turned_down : Failure → Answer
  withdrawn : Answer
  open_count : ℕ → Answer

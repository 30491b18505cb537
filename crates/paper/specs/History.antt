-- What calls and their answers tell, and nothing else: no step from one paper board to the next is cited here.
use Rattle.std.specs.Prelude.{ℕ, ◌+◌, Bool, true, false, cond, List, [], ◌∷◌, ◌++◌, Option, Some, None}
use Rattle.tables.specs.declared.row.Row.{Row}
use Rattle.paper.specs.declared.own.OwnBinding.{OwnBinding}
use Rattle.paper.specs.declared.change.Change.{Change}
use Rattle.paper.specs.Calls.{Call, adopt, propose, revise, admit, withdraw, Answer, adopted, proposed, revised, stood, turned_down, withdrawn}
use Rattle.paper.specs.Paper.{Paper, own_with}

-- Each call with its answer, the newest first, so that the tail is what went before.
abbrev pub History : Type 0
History = List (Call × Answer)

-- What went before, and then these calls with their answers.
abbrev pub history : History → List Call → List Answer → History
history before (call ∷ calls) (answer ∷ answers) = history ((call, answer) ∷ before) calls answers
history before calls answers = before

-- The adopted rules, in order: the tables of the adopt calls that were answered with rounds.
abbrev pub rules_of : History → List (List Row)
rules_of [] = []
rules_of ((adopt rows room, adopted n) ∷ before) = rules_of before ++ rows ∷ []
rules_of (entry ∷ before) = rules_of before

-- The change under the ticket: the last that a propose or a revise which was not refused put.
abbrev pub change_put : History → Option Change
change_put [] = None
change_put ((propose change, proposed t) ∷ before) = Some change
change_put ((revise t change, revised u) ∷ before) = Some change
change_put (entry ∷ before) = change_put before

-- A proposal is open: from a propose that was not refused until an admit or a withdraw spends its ticket.
abbrev pub open_now : History → Bool
open_now [] = false
open_now ((propose change, proposed t) ∷ before) = true
open_now ((admit t room, stood n) ∷ before) = false
open_now ((admit t room, turned_down f) ∷ before) = false
open_now ((withdraw t, withdrawn) ∷ before) = false
open_now (entry ∷ before) = open_now before

-- The own bindings: what the changes of the admit calls that were answered with rounds make of none, in order.
abbrev pub own_of : History → List OwnBinding
own_of [] = []
own_of ((admit t room, stood n) ∷ before) = own_with (change_put before) (own_of before)
own_of (entry ∷ before) = own_of before

-- How many proposals were opened, how many stood, were turned down, were withdrawn, and are open.
abbrev pub times_opened : History → ℕ
times_opened [] = 0
times_opened ((propose change, proposed t) ∷ before) = times_opened before + 1
times_opened (entry ∷ before) = times_opened before

abbrev pub times_stood : History → ℕ
times_stood [] = 0
times_stood ((admit t room, stood n) ∷ before) = times_stood before + 1
times_stood (entry ∷ before) = times_stood before

abbrev pub times_turned_down : History → ℕ
times_turned_down [] = 0
times_turned_down ((admit t room, turned_down f) ∷ before) = times_turned_down before + 1
times_turned_down (entry ∷ before) = times_turned_down before

abbrev pub times_withdrawn : History → ℕ
times_withdrawn [] = 0
times_withdrawn ((withdraw t, withdrawn) ∷ before) = times_withdrawn before + 1
times_withdrawn (entry ∷ before) = times_withdrawn before

abbrev pub times_open : History → ℕ
times_open h = cond (open_now h) 1 0

-- The board on paper that a history tells of. The last serial is the number of proposals that were opened.
abbrev pub told_by : History → Paper
told_by h = record { own = own_of h; rules = rules_of h; pending = cond (open_now h) (change_put h) None; last = times_opened h }

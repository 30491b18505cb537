-- Calls and answers as they are played, read as those of the paper board.
use Rattle.std.specs.Prelude.{ℕ, cond, List, map, nat_le, Option, Some, None}
use Rattle.judging.specs.Steps.{as_pos}
use Rattle.routing.specs.Net.{Net}
use Rattle.paper.specs.declared.room.Room.{Room}
use Rattle.paper.specs.Paper.{Opening}
use Rattle.paper.specs.Calls.{Call, adopt, propose, revise, admit, withdraw, ask_open, Answer, refused, adopted, proposed, revised, stood, turned_down, withdrawn, open_count, Showing, no_route, a_route}
use Rattle.board.specs.declared.call.Call.{Call as PlayedCall}
use Rattle.board.specs.declared.call.Call.TheVariants.{Adopt, Propose, Revise, Admit, Withdraw, AskOpen}
use Rattle.board.specs.declared.call.Answer.{Answer as PlayedAnswer}
use Rattle.board.specs.declared.call.Answer.TheVariants.{Refused, Adopted, Proposed, Revised, Stood, TurnedDown, Withdrawn, Open}
use Rattle.board.specs.declared.call.ShownRoute.{ShownRoute}

-- What a call is lent: so much of each list as it names, and no more than there is.
abbrev pub at_most : ℕ → ℕ → ℕ
at_most there named = cond (nat_le named there) named there

abbrev pub lent : Room → Room → Room
lent there named = record {
  main = at_most there.main named.main;
  spare = at_most there.spare named.spare;
  steps = at_most there.steps named.steps;
}

-- The call, where the lists have these lengths.
abbrev pub call_of : Room → PlayedCall → Call
call_of there (Adopt table named) = adopt table.items (lent there named)
call_of there (Propose change) = propose change
call_of there (Revise t change) = revise t change
call_of there (Admit t named) = admit t (lent there named)
call_of there (Withdraw t) = withdraw t
call_of there AskOpen = ask_open

abbrev pub calls_of : Room → List PlayedCall → List Call
calls_of there calls = map (call_of there) calls

-- The route that an answer holds, if it does.
abbrev pub route_of : Option ShownRoute → Showing
route_of None = no_route
route_of (Some r) = a_route (map as_pos r.steps.items) r.ending

-- The answer.
abbrev pub answer_of : PlayedAnswer → Answer
answer_of (Refused r) = refused r
answer_of (Adopted n) = adopted n
answer_of (Proposed t) = proposed t
answer_of (Revised t) = revised t
answer_of (Stood n) = stood n
answer_of (TurnedDown f) = turned_down (record { rule = f.rule; at = record { place = f.place; setting = f.setting }; shown = route_of f.route })
answer_of Withdrawn = withdrawn
answer_of (Open n) = open_count n

abbrev pub answers_of : List PlayedAnswer → List Answer
answers_of answers = map answer_of answers

-- What a board is opened with, by its parts.
abbrev pub opening_with : ℕ → List ℕ → Net → Opening
opening_with number marks far = record { number = number; marks = marks; far = far }

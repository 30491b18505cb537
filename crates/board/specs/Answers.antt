-- What the calls of a board answer, and what the lists then hold.
use Rattle.std.specs.Prelude.{◌≡◌, ◌≤◌, ℕ, List, map, length, take, drop, Option, Some, None, Ok, Err, Result}
use Rattle.routing.specs.declared.refusal.Refusal.{Refusal}
use Rattle.routing.specs.Refusals.{numbered}
use Rattle.judging.specs.declared.shown.RouteStep.{RouteStep}
use Rattle.judging.specs.declared.shown.Shown.{Shown}
use Rattle.judging.specs.Steps.{as_pos}
use Rattle.paper.specs.declared.numbers.Numbers.{Numbers}
use Rattle.paper.specs.declared.room.Room.{Room}
use Rattle.paper.specs.Calls.{Answer, refused, adopted, proposed, revised, stood, turned_down, withdrawn, Showing, no_route, a_route, Failure as PaperFailure}
use Rattle.board.specs.declared.opening.OpeningFault.{OpeningFault}
use Rattle.board.specs.declared.opening.OpeningFault.TheVariants.{Refused as OpeningRefused, NoMemory}
use Rattle.board.specs.declared.rejection.Failure.{Failure}
use Rattle.board.specs.declared.rejection.Rejection.{Rejection}
use Rattle.board.specs.declared.rejection.Rejection.TheVariants.{Refused, TurnedDown}
use Rattle.board.specs.declared.rejection.NotAdmitted.{NotAdmitted}
use Rattle.board.specs.declared.rejection.NotAdmitted.TheVariants.{Denied as NotTaken, TurnedDown as Dropped}
use Rattle.board.specs.declared.ticket.Denied.{Denied}
use Rattle.board.specs.declared.ticket.Ticket.{Ticket}

-- The lengths of three lists.
abbrev pub room_of : {S : Type 0} → List S → List S → List RouteStep → Room
room_of main spare steps = record { main = length main; spare = length spare; steps = length steps }

-- The number of each refusal; 25 is the number of what was judged and turned down.
abbrev pub rejection_number : Rejection → ℕ
rejection_number (Refused r) = numbered r
rejection_number (TurnedDown f) = 25

abbrev pub not_admitted_number : NotAdmitted → ℕ
not_admitted_number (NotTaken d) = numbered d.refusal
not_admitted_number (Dropped f) = 25

-- What is shown of a rule that breaks: the positions at the front of the steps list.
abbrev pub showing : Option Shown → List RouteStep → Showing
showing None steps = no_route
showing (Some s) steps = a_route (map as_pos (take s.count steps)) s.ending

abbrev pub broken_by : Failure → List RouteStep → PaperFailure
broken_by f steps = record { rule = f.rule; at = record { place = f.place; setting = f.setting }; shown = showing f.shown steps }

-- The answers of the calls, where the steps list then holds `steps`.
abbrev pub adopt_answer : Result ℕ Rejection → List RouteStep → Answer
adopt_answer (Ok n) steps = adopted n
adopt_answer (Err (Refused r)) steps = refused r
adopt_answer (Err (TurnedDown f)) steps = turned_down (broken_by f steps)

abbrev pub admit_answer : Result ℕ Rejection → List RouteStep → Answer
admit_answer (Ok n) steps = stood n
admit_answer (Err (Refused r)) steps = refused r
admit_answer (Err (TurnedDown f)) steps = turned_down (broken_by f steps)

abbrev pub ticket_answer : Result ℕ NotAdmitted → List RouteStep → Answer
ticket_answer (Ok n) steps = stood n
ticket_answer (Err (NotTaken d)) steps = refused d.refusal
ticket_answer (Err (Dropped f)) steps = turned_down (broken_by f steps)

abbrev pub propose_answer : Result Ticket Refusal → Answer
propose_answer (Ok t) = proposed t.numbers
propose_answer (Err r) = refused r

abbrev pub revise_answer : Result Ticket Denied → Answer
revise_answer (Ok t) = revised t.numbers
revise_answer (Err d) = refused d.refusal

abbrev pub withdraw_answer : {T : Type 0} → Result T Denied → Answer
withdraw_answer (Ok t) = withdrawn
withdraw_answer (Err d) = refused d.refusal

-- The same of calls that are given the numbers of a ticket.
abbrev pub propose_by : Result Numbers Refusal → Answer
propose_by (Ok t) = proposed t
propose_by (Err r) = refused r

abbrev pub revise_by : {T : Type 0} → Numbers → Result T Refusal → Answer
revise_by t (Ok done) = revised t
revise_by t (Err r) = refused r

abbrev pub withdraw_by : {T : Type 0} → Result T Refusal → Answer
withdraw_by (Ok done) = withdrawn
withdraw_by (Err r) = refused r

-- The ticket that a refused call hands back, if it does.
abbrev pub handed_back : {T : Type 0} → Result T NotAdmitted → Option Ticket
handed_back (Ok n) = None
handed_back (Err (NotTaken d)) = Some d.ticket
handed_back (Err (Dropped f)) = None

-- The shown positions stand at the front of the steps list, whose rest stays; where nothing is shown it is as it was.
abbrev pub StepsKept : Option Shown → List RouteStep → List RouteStep → Type 0
StepsKept None steps steps' = steps' ≡ steps
StepsKept (Some s) steps steps' = (s.count ≤ length steps') × (drop s.count steps' ≡ drop s.count steps)

abbrev pub StepsAfter : Result ℕ Rejection → List RouteStep → List RouteStep → Type 0
StepsAfter (Ok n) steps steps' = steps' ≡ steps
StepsAfter (Err (Refused r)) steps steps' = steps' ≡ steps
StepsAfter (Err (TurnedDown f)) steps steps' = StepsKept f.shown steps steps'

abbrev pub StepsAfterAdmit : Result ℕ NotAdmitted → List RouteStep → List RouteStep → Type 0
StepsAfterAdmit (Ok n) steps steps' = steps' ≡ steps
StepsAfterAdmit (Err (NotTaken d)) steps steps' = steps' ≡ steps
StepsAfterAdmit (Err (Dropped f)) steps steps' = StepsKept f.shown steps steps'

-- Main list and spare stay where the call is refused without judging; else they are free.
abbrev pub WorkAfter : {S : Type 0} → Result ℕ Rejection → List S → List S → List S → List S → Type 0
WorkAfter (Ok n) main main' spare spare' = Unit {0}
WorkAfter (Err (Refused r)) main main' spare spare' = (main' ≡ main) × (spare' ≡ spare)
WorkAfter (Err (TurnedDown f)) main main' spare spare' = Unit {0}

abbrev pub WorkAfterAdmit : {S : Type 0} → Result ℕ NotAdmitted → List S → List S → List S → List S → Type 0
WorkAfterAdmit (Ok n) main main' spare spare' = Unit {0}
WorkAfterAdmit (Err (NotTaken d)) main main' spare spare' = (main' ≡ main) × (spare' ≡ spare)
WorkAfterAdmit (Err (Dropped f)) main main' spare spare' = Unit {0}

-- The refusal of an opening; absent where it wants for memory.
abbrev pub fault_refusal : OpeningFault → Option Refusal
fault_refusal (OpeningRefused r) = Some r
fault_refusal NoMemory = None

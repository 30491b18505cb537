-- The law of a board, said of the history of its calls and answers: no step from one paper board to the next is cited here.
use Rattle.std.specs.Prelude.{◌≡◌, ℕ, ◌+◌, ◌⊎◌, ◌↔◌, List, ◌∷◌, ◌++◌, Some, None}
use Rattle.routing.specs.declared.refusal.Refusal.{Refusal}
use Rattle.routing.specs.Net.{Net}
use Rattle.tables.specs.declared.row.Row.{Row}
use Rattle.paper.specs.Calls.{Call, adopt, propose, revise, admit, withdraw, ask_open, Answer, refused, adopted, proposed, revised, stood, turned_down, withdrawn, open_count, Failure}
use Rattle.paper.specs.History.{History, rules_of, own_of, times_opened, times_stood, times_turned_down, times_withdrawn, times_open, told_by}
use Rattle.paper.specs.Paper.{Opening, standing}
use Rattle.paper.specs.Refused.{refusal}
use Rattle.paper.specs.Rules.{AllHold, FirstBroken, ShownRightly}

-- The network that stands: what the own bindings make of the far network.
abbrev pub net_told : Opening → History → Net
net_told o h = standing o (own_of h)

-- Each adopted rule holds at every entry, own and far, under every setting of the network that stands.
abbrev pub RulesHold : Opening → History → Type 0
RulesHold o h = AllHold (net_told o h) (rules_of h)

-- Of the adopted rules the first that breaks in the network that stands does so as the failure says, and what is shown of it breaks it.
pub record RulesFail (o : Opening) (h : History) (f : Failure) : Type 0 where
  pub table : List Row
  pub first : FirstBroken (net_told o h) (rules_of h) f.rule f.at table
  pub shown : ShownRightly (net_told o h) table f.at f.shown

-- With the call standing each rule would hold, and it stands; or some rule would break, and it is turned down with the first that does, its
-- least failing entry and that entry's picked setting, and the routes that are shown of it each break it. What would stand is what the
-- history tells with the call answered by rounds; how many they are does not matter to it.
abbrev pub StandsOrFalls : Opening → History → Call → (ℕ → Answer) → Answer → Type 0
StandsOrFalls o before call stands answer =
    ((n : ℕ) × RulesHold o ((call, stands n) ∷ before) × (answer ≡ stands n))
    ⊎ ((f : Failure) × RulesFail o ((call, stands 0) ∷ before) f × (answer ≡ turned_down f))

-- What a call that no line refuses is answered, by what went before it. One to adopt or to admit comes to judgement; to propose hands out
-- a ticket with the board's number and the next serial, to revise hands the ticket back, and to ask answers how many proposals are open.
abbrev pub RightAnswer : Opening → History → Call → Answer → Type 0
RightAnswer o before (adopt rows room) answer = StandsOrFalls o before (adopt rows room) adopted answer
RightAnswer o before (admit t room) answer = StandsOrFalls o before (admit t room) stood answer
RightAnswer o before (propose change) answer = answer ≡ proposed (record { board = o.number; serial = times_opened before + 1 })
RightAnswer o before (revise t change) answer = answer ≡ revised t
RightAnswer o before (withdraw t) answer = answer ≡ withdrawn
RightAnswer o before ask_open answer = answer ≡ open_count (times_open before)

-- What is said of each call of a history, by what went before it.
abbrev pub EachCall : History → (History → Call → Answer → Type 0) → Type 0
EachCall h P = (later before : History) (call : Call) (answer : Answer) → h ≡ later ++ (call, answer) ∷ before → P before call answer

-- A call that no line refuses is answered rightly, and one is refused exactly when its line says so, read on what went before it.
abbrev pub AnsweredRightly : Opening → History → Call → Answer → Type 0
AnsweredRightly o before call answer = refusal o (told_by before) call ≡ None → RightAnswer o before call answer

abbrev pub RefusedRightly : Opening → History → Call → Answer → Type 0
RefusedRightly o before call answer = (r : Refusal) → (answer ≡ refused r) ↔ (refusal o (told_by before) call ≡ Some r)

-- The law.
pub record Law (o : Opening) (h : History) : Type 0 where
  -- Each adopted rule holds at every entry, own and far, under every setting of the standing network.
  pub rules : RulesHold o h
  -- A call that comes to judgement stands exactly where each rule would then hold; else it is turned down, with the first rule that would
  -- break, and with routes each of which breaks it. The other calls that are not refused are answered by what the history shows.
  pub judged : EachCall h (AnsweredRightly o)
  -- Each proposal stood, was turned down, was withdrawn, or is open.
  pub counted : times_opened h ≡ times_stood h + times_turned_down h + times_withdrawn h + times_open h
  -- A call is refused exactly when its line says so.
  pub refusals : EachCall h (RefusedRightly o)

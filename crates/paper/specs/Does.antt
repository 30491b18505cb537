-- What each call does to the board on paper, and what it is answered.
use Rattle.std.specs.Prelude.{◌≡◌, ℕ, ◌+◌, cond, List, [], ◌∷◌, ◌++◌, length, Some, None}
use Rattle.routing.specs.Net.{Net}
use Rattle.tables.specs.declared.row.Row.{Row}
use Rattle.judging.specs.Judged.{RoundsBefore}
use Rattle.paper.specs.Calls.{Call, adopt, propose, revise, admit, withdraw, ask_open, Answer, refused, adopted, proposed, revised, stood, turned_down, withdrawn, open_count, Failure}
use Rattle.paper.specs.Paper.{Opening, Paper, standing, own_with}
use Rattle.paper.specs.Refused.{refusal, is_open}
use Rattle.paper.specs.Rules.{HoldsAtEntries, AllHold, BreaksFirstAt, FirstBroken, ShownRightly, ShownAsChosen, RoundsOfAll}

-- The network in which the rules are judged: the one that stands, and the one with the open change.
abbrev pub standing_net : Opening → Paper → Net
standing_net o p = standing o p.own

abbrev pub proposed_net : Opening → Paper → Net
proposed_net o p = standing o (own_with p.pending p.own)

-- How many proposals are open.
abbrev pub count_open : Paper → ℕ
count_open p = cond (is_open p) 1 0

-- The table to be adopted, whose number is that of the rules before, breaks as the failure says.
pub record TableBreaks (N : Net) (rules : List (List Row)) (rows : List Row) (f : Failure) : Type 0 where
  pub number : f.rule ≡ length rules
  pub breaks : BreaksFirstAt N rows f.at
  pub chosen : ShownAsChosen N rows f.at f.shown
  pub shown : ShownRightly N rows f.at f.shown

-- Of the rules the first that breaks does so as the failure says.
pub record RulesBreak (N : Net) (rules : List (List Row)) (f : Failure) : Type 0 where
  pub table : List Row
  pub first : FirstBroken N rules f.rule f.at table
  pub chosen : ShownAsChosen N table f.at f.shown
  pub shown : ShownRightly N table f.at f.shown

-- What a call that is not refused is answered, and the board q that it leaves.
abbrev pub Done : Opening → Paper → Call → Answer → Paper → Type 0
Done o p (adopt rows room) (adopted n) q =
    HoldsAtEntries (standing_net o p) rows × RoundsBefore (standing_net o p) rows (length rows) n × (q ≡ record p { rules = p.rules ++ rows ∷ [] })
Done o p (adopt rows room) (turned_down f) q = TableBreaks (standing_net o p) p.rules rows f × (q ≡ p)
Done o p (propose change) (proposed t) q =
    (t ≡ record { board = o.number; serial = p.last + 1 }) × (q ≡ record p { pending = Some change; last = p.last + 1 })
Done o p (revise t change) (revised u) q = (u ≡ t) × (q ≡ record p { pending = Some change })
Done o p (admit t room) (stood n) q =
    AllHold (proposed_net o p) p.rules × RoundsOfAll (proposed_net o p) p.rules n × (q ≡ record p { own = own_with p.pending p.own; pending = None })
Done o p (admit t room) (turned_down f) q = RulesBreak (proposed_net o p) p.rules f × (q ≡ record p { pending = None })
Done o p (withdraw t) withdrawn q = q ≡ record p { pending = None }
Done o p ask_open (open_count n) q = (n ≡ count_open p) × (q ≡ p)
Done o p call answer q = ⊥

-- From p a call is answered so, and leaves the board q: a refused call leaves p.
abbrev pub Does : Opening → Paper → Call → Answer → Paper → Type 0
Does o p call (refused r) q = (refusal o p call ≡ Some r) × (q ≡ p)
Does o p call (adopted n) q = (refusal o p call ≡ None) × Done o p call (adopted n) q
Does o p call (proposed t) q = (refusal o p call ≡ None) × Done o p call (proposed t) q
Does o p call (revised t) q = (refusal o p call ≡ None) × Done o p call (revised t) q
Does o p call (stood n) q = (refusal o p call ≡ None) × Done o p call (stood n) q
Does o p call (turned_down f) q = (refusal o p call ≡ None) × Done o p call (turned_down f) q
Does o p call withdrawn q = (refusal o p call ≡ None) × Done o p call withdrawn q
Does o p call (open_count n) q = (refusal o p call ≡ None) × Done o p call (open_count n) q

-- From p on the calls are answered so, one after another, and leave the board q.
abbrev pub Run : Opening → Paper → List Call → List Answer → Paper → Type 0
Run o p [] [] q = p ≡ q
Run o p (call ∷ calls) (answer ∷ answers) q = (m : Paper) × Does o p call answer m × Run o m calls answers q
Run o p [] (answer ∷ answers) q = ⊥
Run o p (call ∷ calls) [] q = ⊥

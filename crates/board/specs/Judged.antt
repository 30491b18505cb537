-- What judging the tables that a board keeps says. Cited inside board alone.
use Rattle.std.specs.Prelude.{◌≡◌, ℕ, List, length, Ok, Err, Result}
use Rattle.routing.specs.Net.{Net}
use Rattle.tables.specs.declared.row.Row.{Row}
use Rattle.judging.specs.declared.shown.RouteStep.{RouteStep}
use Rattle.judging.specs.Judged.{RoundsBefore}
use Rattle.paper.specs.Does.{RulesBreak}
use Rattle.paper.specs.Rules.{HoldsAtEntries, AllHold, BreaksFirstAt, FirstBroken, ShownAsChosen, ShownRightly, RoundsOfAll}
use Rattle.board.specs.declared.judged.Verdicts.{Verdicts}
use Rattle.board.specs.declared.judged.Verdicts.TheVariants.{AllHold as Hold, Breaks}
use Rattle.board.specs.declared.rejection.Failure.{Failure}
use Rattle.board.specs.Answers.{showing, broken_by}

-- All rules hold, with the sum of their rounds; or this is the first that breaks.
abbrev pub RulesJudged : Net → List (List Row) → Verdicts → Type 0
RulesJudged N rules (Hold n) = AllHold N rules × RoundsOfAll N rules n
RulesJudged N rules (Breaks k s a) = (rows : List Row) × FirstBroken N rules k (record { place = s; setting = a }) rows

-- All rules hold, or the first that breaks is shown.
abbrev pub RulesShown : Net → List (List Row) → List RouteStep → Result ℕ Failure → Type 0
RulesShown N rules steps (Ok n) = AllHold N rules × RoundsOfAll N rules n
RulesShown N rules steps (Err f) = RulesBreak N rules (broken_by f steps)

-- The rule of the table, behind so many others, holds, or it is shown why it breaks.
abbrev pub TableJudged : Net → ℕ → List Row → List RouteStep → Result ℕ Failure → Type 0
TableJudged N rules rows steps (Ok n) = HoldsAtEntries N rows × RoundsBefore N rows (length rows) n
TableJudged N rules rows steps (Err f) =
    (f.rule ≡ rules) × BreaksFirstAt N rows (record { place = f.place; setting = f.setting })
    × ShownAsChosen N rows (record { place = f.place; setting = f.setting }) (showing f.shown steps)
    × ShownRightly N rows (record { place = f.place; setting = f.setting }) (showing f.shown steps)

-- What holds of every run of calls.
use Rattle.std.specs.Prelude.{◌≡◌, ℕ, ◌≤◌, List, [], length, take}
use Rattle.routing.specs.Bindings.{Fits}
use Rattle.routing.specs.Net.{Net, Pos}
use Rattle.tables.specs.declared.row.Row.{Row}
use Rattle.paper.specs.Calls.{Call, Answer}
use Rattle.paper.specs.Paper.{Opening, Paper, opened, all_places}
use Rattle.paper.specs.Does.{Run}
use Rattle.paper.specs.History.{history, told_by}
use Rattle.paper.specs.Law.{Law}
use Rattle.paper.specs.Rules.{AllHold, FirstBroken}

-- After each number of calls from the opening the law holds.
abbrev pub EveryRunLawful : Type 0
EveryRunLawful =
    (o : Opening) (calls : List Call) (answers : List Answer) (q : Paper) → Run o opened calls answers q
    → (i : ℕ) → Law o (history [] (take i calls) (take i answers))

-- A run leaves the board that its calls and answers tell of.
abbrev pub HistoryTells : Type 0
HistoryTells =
    (o : Opening) (calls : List Call) (answers : List Answer) (q : Paper) → Run o opened calls answers q → q ≡ told_by (history [] calls answers)

-- From one board the same calls are answered alike, and leave the same board.
abbrev pub OneRun : Type 0
OneRun =
    (o : Opening) (p : Paper) (calls : List Call) (one other : List Answer) (q r : Paper) → Run o p calls one q → Run o p calls other r
    → (one ≡ other) × (q ≡ r)

-- What is asked of an opening: the far network keeps its limits, and there is room beside it for the own places and for 128 own bindings.
pub record OpeningFits (o : Opening) : Type 0 where
  pub far : Fits o.far
  pub few_places : all_places o ≤ 256
  pub few_bindings : length o.far.bindings ≤ 3968

-- From such an opening every list of calls is answered.
abbrev pub SomeRun : Type 0
SomeRun = (o : Opening) → OpeningFits o → (calls : List Call) → (answers : List Answer) × (q : Paper) × Run o opened calls answers q

-- Rules that all hold at the entries of a network are not rules of which one breaks there: of the two ways in which the law has a call
-- decided just one is right.
abbrev pub NeverBoth : Type 0
NeverBoth = (N : Net) (rules : List (List Row)) (k : ℕ) (at : Pos) (rows : List Row) → AllHold N rules → ¬ (FirstBroken N rules k at rows)

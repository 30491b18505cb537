-- The line that is added for one rule.
use Rattle.std.specs.Prelude.{◌≡◌, ℕ, ◌≤◌, List, length, Ok}
use Rattle.routing.specs.Net.{Net}
use Rattle.routing.specs.Rules.{Rule}
use Rattle.tables.specs.declared.row.Row.{Row}
use Rattle.rule_text.specs.Reading.{Reading, StandsFor}
use Rattle.rule_text.specs.Rows.{rows_of}
use Rattle.report.specs.declared.outcome.Report.{Report}
use Rattle.report.specs.Lines.{RuleLine}
use Rattle.report.specs.Outcomes.{Adds}

-- The text is a rule, over six conditions, and the rows are its table.
pub record Tabled (t : List ℕ) (rows : List Row) : Type 0 where
  pub rule : Rule
  pub is_rule : Reading 6 t (Ok rule)
  pub rows_are : rows ≡ rows_of 0 rule
  pub stands : StandsFor rows rule

-- A line is added, if there is room: the line of rule i, for each text that has this table.
pub record LineAdded (N : Net) (i : ℕ) (rows : List Row) (before after : Report) : Type 0 where
  pub line : List ℕ
  pub short : length line ≤ 64
  pub adds : Adds before line after
  pub right : (t : List ℕ) → Tabled t rows → RuleLine N i t line

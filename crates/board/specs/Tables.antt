-- The rules that a board keeps: tables of at most 32 rows.
use Rattle.std.specs.Prelude.{List, map}
use Rattle.arrayvec.specs.ArrayVec.{ArrayVec}
use Rattle.tables.specs.declared.row.Row.{Row}

abbrev pub rows_of : List (ArrayVec Row) → List (List Row)
rows_of rules = map (λ t. t.items) rules

abbrev pub tables_of : ArrayVec (ArrayVec Row) → List (List Row)
tables_of rules = rows_of rules.items

use Rattle.std.proofs.Common.{◌≡◌, ℕ, ◌<◌, true, get_or}
use Rattle.tables.specs.Tables.{row_fits, no_row}
use Rattle.tables.proofs.table.is_accepted.Given as goal

abbrev pub invariant-loop-i : goal.invariant-loop-i
invariant-loop-i l = (k : ℕ) → k < l.i → row_fits l.conditions k (get_or l.table k no_row) ≡ true

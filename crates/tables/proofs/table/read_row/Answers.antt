use Rattle.std.proofs.Common.{rules}
use Rattle.tables.proofs.table.read_row.Goals as goal

pub returns : goal.returns
returns c = search rules

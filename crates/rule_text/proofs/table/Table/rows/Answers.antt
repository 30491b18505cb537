use Rattle.std.proofs.Common.{rules}
use Rattle.rule_text.proofs.table.Table.rows.Goals as goal

pub returns : goal.returns
returns c = search rules

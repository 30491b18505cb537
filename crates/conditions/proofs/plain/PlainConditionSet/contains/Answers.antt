use Rattle.std.proofs.Common.{rules}
use Rattle.conditions.proofs.plain.PlainConditionSet.contains.Goals as goal

pub returns : goal.returns
returns c = search rules

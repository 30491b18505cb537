use Rattle.std.proofs.Common.{rules}
use Rattle.conditions.proofs.plain.PlainConditionSet.complement.Goals as goal

pub returns : goal.returns
returns c = search rules

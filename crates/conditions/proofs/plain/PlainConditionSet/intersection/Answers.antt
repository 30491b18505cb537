use Rattle.std.proofs.Common.{rules}
use Rattle.conditions.proofs.plain.PlainConditionSet.intersection.Goals as goal

pub returns : goal.returns
returns c = search rules

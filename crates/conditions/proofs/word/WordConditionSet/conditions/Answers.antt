use Rattle.std.proofs.Common.{rules}
use Rattle.conditions.proofs.word.WordConditionSet.conditions.Goals as goal

pub returns : goal.returns
returns c = search rules

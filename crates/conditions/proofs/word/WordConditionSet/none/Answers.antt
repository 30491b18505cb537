use Rattle.std.proofs.Common.{rules}
use Rattle.conditions.proofs.word.WordConditionSet.none.Goals as goal

pub returns : goal.returns
returns c = search rules

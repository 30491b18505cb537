use Rattle.conditions.proofs.Words.{word_union}
use Rattle.conditions.proofs.word.WordConditionSet.union.Goals as goal

pub returns : goal.returns
returns c = word_union 64 c.args.self.now.0 c.args.other.now.0

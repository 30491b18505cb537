use Rattle.conditions.proofs.Words.{word_intersection}
use Rattle.conditions.proofs.word.WordConditionSet.intersection.Goals as goal

pub returns : goal.returns
returns c = word_intersection 64 c.args.self.now.0 c.args.other.now.0

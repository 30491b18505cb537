use Rattle.std.proofs.Common.{w64, arith}
use Rattle.conditions.proofs.Words.{word_pick}
use Rattle.conditions.proofs.word.WordConditionSet.pick.Goals as goal

pub returns-else-self-eq0 : goal.returns-else-self-eq0
returns-else-self-eq0 c = word_pick w64 c.args.self.now.0 (omega arith) (omega arith)

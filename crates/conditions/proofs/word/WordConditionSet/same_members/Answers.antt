use Rattle.std.proofs.Common.{arith}
use Rattle.conditions.proofs.Words.{word_same}
use Rattle.conditions.proofs.word.WordConditionSet.same_members.Goals as goal

pub returns : goal.returns
returns c = word_same 64 c.args.self.now.0 c.args.other.now.0 (omega arith) (omega arith)

use Rattle.std.proofs.Common.{w64, arith}
use Rattle.conditions.proofs.Words.{word_complement}
use Rattle.conditions.proofs.word.WordConditionSet.complement.Goals as goal

pub returns : goal.returns
returns c = λ a. word_complement w64 c.args.self.now.0 a (omega arith)

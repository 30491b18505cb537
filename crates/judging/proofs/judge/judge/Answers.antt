use Rattle.std.proofs.Common.{rules}
use Rattle.judging.proofs.judge.judge.Goals as goal

pub returns-then-not-is_accepted-clause-refusal : goal.returns-then-not-is_accepted-clause-refusal
returns-then-not-is_accepted-clause-refusal g c = search rules

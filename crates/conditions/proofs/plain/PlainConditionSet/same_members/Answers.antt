use Rattle.conditions.proofs.Words.{flags_same}
use Rattle.conditions.proofs.plain.PlainConditionSet.same_members.Goals as goal

pub returns : goal.returns
returns c = flags_same c.args.self.now.0 c.args.other.now.0

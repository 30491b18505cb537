use Rattle.std.proofs.Common.{rules}
use Rattle.plan.proofs.file.PlanFile.text.Goals as goal

pub returns : goal.returns
returns c = search rules

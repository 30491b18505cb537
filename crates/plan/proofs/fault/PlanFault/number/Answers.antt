use Rattle.std.proofs.Common.{rules}
use Rattle.plan.proofs.fault.PlanFault.number.Goals as goal

pub returns-in-InFile : goal.returns-in-InFile
returns-in-InFile c = search rules

use Rattle.std.proofs.Common.{rules}
use Rattle.plan.proofs.fault.WriteFault.number.Goals as goal

pub returns-in-BadPlan : goal.returns-in-BadPlan
returns-in-BadPlan c = search rules

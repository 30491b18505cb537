use Rattle.std.proofs.Common.{rules}
use Rattle.plan.proofs.fault.FileFault.number.Goals as goal

pub returns : goal.returns
returns c = search rules

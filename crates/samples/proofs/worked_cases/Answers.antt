use Rattle.samples.proofs.Worked.{worked}
use Rattle.samples.proofs.worked_cases.Goals as goal

pub returns : goal.returns
returns c = worked

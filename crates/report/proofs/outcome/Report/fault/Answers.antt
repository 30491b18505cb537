use Rattle.std.proofs.Common.{rules}
use Rattle.report.proofs.outcome.Report.fault.Goals as goal

pub returns : goal.returns
returns c = search rules

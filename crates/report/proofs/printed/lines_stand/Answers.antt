use Rattle.report.proofs.Once.{one_report}
use Rattle.report.proofs.printed.lines_stand.Goals as goal

pub returns : goal.returns
returns c = one_report

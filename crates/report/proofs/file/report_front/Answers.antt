use Rattle.std.proofs.Common.{rules}
use Rattle.report.proofs.file.report_front.Goals as goal

pub returns-in_err-fault : goal.returns-in_err-fault
returns-in_err-fault c = search rules

pub returns : goal.returns
returns c = search rules

use Rattle.std.proofs.Common.{rules}
use Rattle.rule_text.proofs.fault.Fault.number.Goals as goal

pub returns : goal.returns
returns c = search rules

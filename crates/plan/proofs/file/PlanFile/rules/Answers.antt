use Rattle.std.proofs.Common.{arith}
use Rattle.plan.specs.Contents.{rule_count, text_at}
use Rattle.plan.specs.Fitting.{length_listed}
use Rattle.plan.proofs.file.PlanFile.rules.Goals as goal

pub returns : goal.returns
returns c =
    let file = c.args.self.now.file.counted.bytes.now in
    let are = c.args.self.now.file.counted.rules_are in
    let len = length_listed (rule_count file) (text_at file) in
    omega arith

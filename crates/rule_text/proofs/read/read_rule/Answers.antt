use Rattle.std.proofs.Common.{subst}
use Rattle.rule_text.specs.Reading.{Answer}
use Rattle.rule_text.proofs.Claimed.{accepted_from, means_from}
use Rattle.rule_text.proofs.read.read_rule.Goals as goal

pub returns : goal.returns
returns g c =
    let answer = subst (λ K. Answer K c.args.text.now c.read_table.result) c.conditions.ensures c.read_table.ensures in
    record {
      answer = answer;
      means = means_from g.S.ConditionSet.count c.args.text.now c.read_table.result answer;
      accepted = accepted_from g.S.ConditionSet.count c.args.text.now c.read_table.result answer;
    }

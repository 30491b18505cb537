use Rattle.std.proofs.Common.{◌-◌, arith}
use Rattle.std.proofs.lemmas.Grind.{common_steps}
use Rattle.rule_text.proofs.Pieces.{spaces_more}
use Rattle.rule_text.proofs.split.skip_spaces.Goals as goal

pub returns-clause-same : goal.returns-clause-same
returns-clause-same c =
    spaces_more c.args.text.now c.args.at c.find_from.result (c.find_from.result - c.args.at) (omega arith) (omega arith)
    (λ k l. grind (arith, common_steps, c.find_from.ensures.before k l))

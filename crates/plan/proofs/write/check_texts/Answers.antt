use Rattle.std.proofs.Common.{◌^◌, ◌<◌}
use Rattle.plan.specs.Reading.{Each, IsRuleText}
use Rattle.plan.proofs.Lent.{each_lent_more, each_lent_all}
use Rattle.plan.proofs.write.check_texts.Goals as goal

pub loop-number-preserved : goal.loop-number-preserved
loop-number-preserved c = (
  each_lent_more c.args.texts.now IsRuleText c.loop-number.number _ c.loop-number-test.true c.loop-number.invariant.0 c.in_ok-check_text.ensures,
  each_lent_more c.args.texts.now (Each (λ b. b < 2 ^ 8)) c.loop-number.number _ c.loop-number-test.true c.loop-number.invariant.1
      c.known_bytes.ensures,
)

pub returns : goal.returns
returns c = (
  each_lent_all c.args.texts.now IsRuleText c.loop-number.number c.loop-number-test.false c.loop-number.invariant.0,
  each_lent_all c.args.texts.now (Each (λ b. b < 2 ^ 8)) c.loop-number.number c.loop-number-test.false c.loop-number.invariant.1,
)

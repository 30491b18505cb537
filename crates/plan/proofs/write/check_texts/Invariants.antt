use Rattle.std.proofs.Common.{◌^◌, ◌<◌, take}
use Rattle.plan.specs.Reading.{Each, IsRuleText}
use Rattle.plan.specs.Writing.{lent}
use Rattle.plan.proofs.write.check_texts.Given as goal

abbrev pub invariant-loop-number : goal.invariant-loop-number
invariant-loop-number l =
    Each IsRuleText (take l.number (lent l.texts))
    × Each (Each (λ b. b < 2 ^ 8)) (take l.number (lent l.texts))

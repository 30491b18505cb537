use Rattle.std.proofs.Common.{◌≡◌, ℕ, ◌<◌}
use Rattle.plan.specs.Contents.{rule_byte, text_at}
use Rattle.plan.specs.Reading.{IsRuleText}
use Rattle.plan.proofs.file.shaped.ShapedFile.check_texts.Given as goal

-- The texts before this one are rules.
abbrev pub invariant-loop-rule : goal.invariant-loop-rule
invariant-loop-rule l = record {
  at : l.byte ≡ rule_byte l.self.counted.bytes.now l.rule;
  read : (j : ℕ) → j < l.rule → IsRuleText (text_at l.self.counted.bytes.now j);
}

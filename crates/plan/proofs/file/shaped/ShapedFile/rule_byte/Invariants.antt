use Rattle.std.proofs.Common.{◌≡◌}
use Rattle.plan.specs.Contents.{rule_byte}
use Rattle.plan.proofs.file.shaped.ShapedFile.rule_byte.Given as goal

abbrev pub invariant-loop-earlier : goal.invariant-loop-earlier
invariant-loop-earlier l = l.byte ≡ rule_byte l.self.counted.bytes.now l.earlier

use Rattle.std.proofs.Common.{◌≡◌, ◌+◌, ◌-◌, ◌*◌, ◌≤◌}
use Rattle.plan.specs.Contents.{rule_byte, rule_count}
use Rattle.plan.specs.Format.{rules_start}
use Rattle.plan.specs.Shape.{lengths_fault}
use Rattle.plan.proofs.shape.CountedFile.check_rules.Given as goal

-- The rules before this one have their lengths in the file, at most 200.
abbrev pub invariant-loop-rule : goal.invariant-loop-rule
invariant-loop-rule l =
    (l.byte ≡ rule_byte l.self.bytes.now l.rule)
    × (l.byte ≤ rules_start 256 4096 + 202 * l.rule)
    × (lengths_fault l.total l.self.bytes.now 0 (rule_count l.self.bytes.now) ≡ lengths_fault l.total l.self.bytes.now l.rule (rule_count l.self.bytes.now - l.rule))

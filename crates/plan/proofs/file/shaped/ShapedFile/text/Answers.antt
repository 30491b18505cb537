use Rattle.std.proofs.Common.{ℕ, ◌+◌, take, drop, Some, sym, ap, ◌∙◌, arith}
use Rattle.plan.specs.Contents.{rule_count, text_at}
use Rattle.plan.specs.Numbers.{field}
use Rattle.plan.proofs.Listed.{nth_listed, nth_past}
use Rattle.plan.proofs.Shaped.{shape_passes, text_inside}
use Rattle.plan.proofs.file.shaped.ShapedFile.text.Goals as goal

pub returns-then-rule-self : goal.returns-then-rule-self
returns-then-rule-self c =
    let file = c.args.self.now.counted.bytes.now in
    let are = c.args.self.now.counted.rules_are in
    sym (nth_past (rule_count file) (text_at file) c.args.rule (omega arith))

pub text_of-requires : goal.text_of-requires
text_of-requires c =
    let file = c.args.self.now.counted.bytes.now in
    let are = c.args.self.now.counted.rules_are in
    let inside = text_inside _ file (shape_passes _ file c.args.self.now.shaped) c.args.rule (omega arith) in
    let same = ap (λ (b : ℕ). field 2 b file) c.rule_byte.ensures in
    omega arith

pub returns : goal.returns
returns c =
    let file = c.args.self.now.counted.bytes.now in
    let are = c.args.self.now.counted.rules_are in
    let text = c.text_of.ensures.text ∙ ap (λ (b : ℕ). take (field 2 b file) (drop (b + 2) file)) c.rule_byte.ensures in
    ap Some text ∙ sym (nth_listed (rule_count file) (text_at file) c.args.rule (omega arith))

use Rattle.std.proofs.Common.{◌≡◌, ℕ, ◌+◌, List, take, drop, ap, ◌∙◌, subst, arith, below_more}
use Rattle.plan.specs.Numbers.{field}
use Rattle.plan.specs.Contents.{rule_byte, text_at}
use Rattle.plan.specs.Reading.{IsRuleText}
use Rattle.plan.proofs.Shaped.{rule_byte_next, shape_passes, text_inside}
use Rattle.plan.proofs.file.shaped.ShapedFile.check_texts.Goals as goal

pub loop-rule-init : goal.loop-rule-init
unfolding rule_byte
loop-rule-init c =
    let places = c.args.self.now.counted.places_are in
    let bindings = c.args.self.now.counted.bindings_are in
    record { at = omega arith; read = λ j below. absurd (omega arith) }

pub text_of-text-requires : goal.text_of-text-requires
text_of-text-requires c =
    let file = c.args.self.now.counted.bytes.now in
    let are = c.args.self.now.counted.rules_are in
    let inside = text_inside _ file (shape_passes _ file c.args.self.now.shaped) c.loop-rule.rule (omega arith) in
    let same = ap (λ (b : ℕ). field 2 b file) c.loop-rule.invariant.at in
    omega arith

pub overflow_add-byte-in-loop-rule : goal.overflow_add-byte-in-loop-rule
overflow_add-byte-in-loop-rule c =
    let file = c.args.self.now.counted.bytes.now in
    let are = c.args.self.now.counted.rules_are in
    let inside = text_inside _ file (shape_passes _ file c.args.self.now.shaped) c.loop-rule.rule (omega arith) in
    let same = ap (λ (b : ℕ). field 2 b file) c.loop-rule.invariant.at in
    omega arith

-- The text that was read is that of the rule.
text_is : (file text : List ℕ) (byte i : ℕ) → byte ≡ rule_byte file i → text ≡ take (field 2 byte file) (drop (byte + 2) file) → text ≡ text_at file i
text_is file text byte i at is = is ∙ ap (λ (b : ℕ). take (field 2 b file) (drop (b + 2) file)) at

pub loop-rule-preserved : goal.loop-rule-preserved
loop-rule-preserved c =
    let file = c.args.self.now.counted.bytes.now in
    let same = text_is file c.text_of-text.result.now c.loop-rule.byte c.loop-rule.rule c.loop-rule.invariant.at c.text_of-text.ensures.text in
    record {
      at = rule_byte_next file c.loop-rule.rule c.loop-rule.byte _ c.loop-rule.invariant.at c.text_of-text.ensures.long;
      read = below_more (λ (j : ℕ). IsRuleText (text_at file j)) c.loop-rule.rule c.loop-rule.invariant.read
          (subst IsRuleText same c.in_ok-check_text.ensures);
    }

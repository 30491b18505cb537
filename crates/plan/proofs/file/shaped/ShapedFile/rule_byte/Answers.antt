use Rattle.std.proofs.Common.{arith}
use Rattle.plan.specs.Contents.{rule_byte}
use Rattle.plan.proofs.Shaped.{rule_byte_next, shape_passes, text_inside}
use Rattle.plan.proofs.file.shaped.ShapedFile.rule_byte.Goals as goal

pub loop-earlier-init : goal.loop-earlier-init
unfolding rule_byte
loop-earlier-init c =
    let places = c.args.self.now.counted.places_are in
    let bindings = c.args.self.now.counted.bindings_are in
    omega arith

pub u16_at-requires : goal.u16_at-requires
u16_at-requires c =
    let inside = text_inside _ _ (shape_passes _ _ c.args.self.now.shaped) c.loop-earlier.earlier (omega arith) in omega arith

pub overflow_add-byte-in-loop-earlier : goal.overflow_add-byte-in-loop-earlier
overflow_add-byte-in-loop-earlier c =
    let inside = text_inside _ _ (shape_passes _ _ c.args.self.now.shaped) c.loop-earlier.earlier (omega arith) in omega arith

pub loop-earlier-preserved : goal.loop-earlier-preserved
loop-earlier-preserved c =
    rule_byte_next c.args.self.now.counted.bytes.now c.loop-earlier.earlier c.loop-earlier.byte _ c.loop-earlier.invariant (omega arith)

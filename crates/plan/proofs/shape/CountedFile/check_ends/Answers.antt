use Rattle.std.proofs.Common.{◌+◌, sym, refl, ap, ◌∙◌, arith}
use Rattle.std.specs.Option.{option_or}
use Rattle.plan.specs.Contents.{binding_count}
use Rattle.plan.specs.Shape.{no_place}
use Rattle.plan.proofs.Firsts.{ends_stop, ends_go, ends_none, err_of}
use Rattle.plan.proofs.shape.CountedFile.check_ends.Goals as goal

pub returns-in_err-check_end : goal.returns-in_err-check_end
returns-in_err-check_end c =
    let file = c.args.self.now.bytes.now in
    let byte = c.binding_byte-byte.result in
    let is = ap (λ o. option_or o (no_place (byte + 2) file)) c.in_err-check_end.ensures in
    err_of c.from_residual.result _ _ c.from_residual.ensures.1
    (sym (c.loop-number.invariant ∙ ends_stop file c.loop-number.number (binding_count file) byte _ (omega arith) (omega arith) is refl))

pub returns-in_err-check_end-2 : goal.returns-in_err-check_end-2
returns-in_err-check_end-2 c =
    let file = c.args.self.now.bytes.now in
    let byte = c.binding_byte-byte.result in
    let is = c.in_err-check_end-2.ensures ∙ ap (λ o. option_or o (no_place (byte + 2) file)) c.in_ok-check_end.ensures in
    err_of c.from_residual-in_err-check_end-2.result _ _ c.from_residual-in_err-check_end-2.ensures.1
    (sym (c.loop-number.invariant ∙ ends_stop file c.loop-number.number (binding_count file) byte _ (omega arith) (omega arith) is refl))

pub loop-number-preserved : goal.loop-number-preserved
loop-number-preserved c =
    let file = c.args.self.now.bytes.now in
    let byte = c.binding_byte-byte.result in
    let is = c.in_ok-check_end-2.ensures ∙ ap (λ o. option_or o (no_place (byte + 2) file)) c.in_ok-check_end.ensures in
    c.loop-number.invariant ∙ ends_go file c.loop-number.number (binding_count file) byte _ (omega arith) (omega arith) is refl

pub returns : goal.returns
returns c = sym (c.loop-number.invariant ∙ ends_none c.args.self.now.bytes.now c.loop-number.number (binding_count c.args.self.now.bytes.now) (omega arith))

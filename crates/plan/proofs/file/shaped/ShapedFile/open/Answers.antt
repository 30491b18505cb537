use Rattle.std.proofs.Common.{◌≡◌, ℕ, List, length, None, sym, subst, arith}
use Rattle.plan.specs.Contents.{binding_at, binding_count, place_count, rule_count}
use Rattle.plan.specs.Shape.{shape_fault}
use Rattle.plan.proofs.Listed.{inside_listed}
use Rattle.plan.proofs.Shaped.{rule_bytes_rise, shape_passes}
use Rattle.plan.proofs.file.shaped.ShapedFile.open.Goals as goal

pub invariant_of-result : goal.invariant_of-result
invariant_of-result c =
    let counted = c.in_ok-counted.counted in
    let file = counted.bytes.now in
    let shaped = subst (λ (bs : List ℕ). shape_fault (length bs) bs ≡ None) (sym c.in_ok-counted.ensures.file) (sym c.in_ok-counted.ensures.fault) in
    let s = shape_passes _ file shaped in
    let rise = rule_bytes_rise file (rule_count file) in
    let places = counted.places_are in
    let bindings = counted.bindings_are in record {
      shaped = shaped;
      few_places = omega arith;
      few_bindings = omega arith;
      room = omega arith;
      ends = inside_listed (place_count file) (binding_count file) (binding_at file) (λ k below. let fit = s.ends k below in (fit.from_in, fit.to_in));
    }

use Rattle.std.proofs.Common.{Some, sym, ap, ◌∙◌, arith}
use Rattle.plan.specs.Contents.{place_count, mark_at}
use Rattle.plan.proofs.Listed.{nth_listed, nth_past}
use Rattle.plan.proofs.file.open.PlanFileNetwork.marks.Goals as goal

pub returns-then-place-self : goal.returns-then-place-self
returns-then-place-self c =
    let file = c.args.self.now.file.counted.bytes.now in
    let are = c.args.self.now.file.counted.places_are in
    ap Some c.u32_at.ensures ∙ sym (nth_listed (place_count file) (mark_at file) c.args.place (omega arith))

pub returns-else-place-self : goal.returns-else-place-self
returns-else-place-self c =
    let file = c.args.self.now.file.counted.bytes.now in
    let are = c.args.self.now.file.counted.places_are in
    sym (nth_past (place_count file) (mark_at file) c.args.place (omega arith))

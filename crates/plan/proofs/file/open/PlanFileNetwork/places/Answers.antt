use Rattle.std.proofs.Common.{arith}
use Rattle.plan.specs.Contents.{mark_at, place_count}
use Rattle.plan.specs.Fitting.{length_listed}
use Rattle.plan.proofs.file.open.PlanFileNetwork.places.Goals as goal

pub returns : goal.returns
returns c =
    let file = c.args.self.now.file.counted.bytes.now in
    let are = c.args.self.now.file.counted.places_are in
    let len = length_listed (place_count file) (mark_at file) in
    omega arith

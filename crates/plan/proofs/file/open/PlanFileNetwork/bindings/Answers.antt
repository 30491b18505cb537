use Rattle.std.proofs.Common.{arith}
use Rattle.conditions.specs.WordSets.{word_holds}
use Rattle.routing.specs.Fitting.{length_links}
use Rattle.plan.specs.Contents.{binding_at, binding_count, listed}
use Rattle.plan.specs.Fitting.{length_listed}
use Rattle.plan.proofs.file.open.PlanFileNetwork.bindings.Goals as goal

pub returns : goal.returns
returns c =
    let file = c.args.self.now.file.counted.bytes.now in
    let are = c.args.self.now.file.counted.bindings_are in
    let links = length_links word_holds (listed (binding_count file) (binding_at file)) in
    let len = length_listed (binding_count file) (binding_at file) in
    omega arith

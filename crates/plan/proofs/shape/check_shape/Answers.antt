use Rattle.std.proofs.Common.{rules}
use Rattle.plan.specs.Shape.{shape_fault}
use Rattle.plan.proofs.shape.check_shape.Goals as goal

pub returns-in_err-check_all-clause-fault : goal.returns-in_err-check_all-clause-fault
unfolding shape_fault
returns-in_err-check_all-clause-fault c = search rules

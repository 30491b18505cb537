use Rattle.std.proofs.Common.{rules, ◌∙◌, arith}
use Rattle.plan.proofs.Oversized.{front_tells}
use Rattle.plan.proofs.oversize.oversize_fault.Goals as goal

pub returns : goal.returns
returns c =
    front_tells c.args.front.now c.args.behind c.in_ok-total.total c.err.result (omega arith) (omega arith) (omega arith) (omega arith)
    c.in_ok-total.ensures.1 (c.err.ensures.value ∙ c.check_shape.ensures.fault)

pub returns-then-behind-eq0 : goal.returns-then-behind-eq0
returns-then-behind-eq0 c = search rules

use Rattle.std.proofs.Common.{◌≡◌, true, ◌&&◌, eqb, ap, arith}
use Rattle.conditions.proofs.Picking.{picked_least}
use Rattle.conditions.proofs.plain.PlainConditionSet.pick.Goals as goal

pub returns-then-self : goal.returns-then-self
returns-then-self c =
    picked_least (λ a. (c.args.self.now.0 && eqb a 0) ≡ true) 0 (ap (λ t. t && true) c.if-self.true) (λ a below h. absurd (omega arith))

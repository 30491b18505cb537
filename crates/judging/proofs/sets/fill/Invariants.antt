use Rattle.std.proofs.Common.{◌≡◌, ◌<◌}
use Rattle.routing.specs.Net.{Pos}
use Rattle.judging.specs.Judged.{covers}
use Rattle.judging.proofs.sets.fill.Given as goal

abbrev pub invariant-loop-set : goal.invariant-loop-set
invariant-loop-set g l = (x : Pos) → x.place < l.set-index → covers g.S.ConditionSet.holds l.sets x ≡ g.S.ConditionSet.holds l.value x.setting

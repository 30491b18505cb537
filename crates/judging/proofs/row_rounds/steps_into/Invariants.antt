use Rattle.std.proofs.Common.{Decides}
use Rattle.rounds.specs.Claims.{Is}
use Rattle.routing.specs.Net.{Pos, Within}
use Rattle.judging.specs.Judged.{covers}
use Rattle.judging.proofs.Into.{Into}
use Rattle.judging.proofs.row_rounds.steps_into.Given as goal

abbrev pub invariant-loop-i : goal.invariant-loop-i
invariant-loop-i g l =
    let holds = g.N.Set.ConditionSet.holds in
    let N = g.N.Network.meaning l.net in
    (x : Pos) → Within N x → Decides (covers holds l.out x) (Into N (Is (covers holds l.sets)) l.i x)

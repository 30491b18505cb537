use Rattle.std.proofs.Common.{◌<◌}
use Rattle.routing.specs.Net.{Pos, Within}
use Rattle.rounds.specs.Claims.{Is}
use Rattle.judging.specs.Judged.{covers}
use Rattle.verdicts.specs.Verdicts.{Entry}
use Rattle.verdicts.proofs.entries.at_entries.Given as goal

abbrev pub invariant-loop-place : goal.invariant-loop-place
invariant-loop-place g l =
    let N = g.N.Network.meaning l.net in
    (x : Pos) → Within N x → x.place < l.place → Entry N x.place → Is (covers g.N.Set.ConditionSet.holds l.part) x

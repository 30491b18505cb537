use Rattle.std.proofs.Common.{◌≡◌, ◌^◌, ◌<◌, ◌&&◌, ltb, get_or}
use Rattle.conditions.specs.Sets.{bit}
use Rattle.routing.specs.Net.{Pos}
use Rattle.judging.specs.Judged.{covers}
use Rattle.judging.proofs.work.write_mark.Given as goal

abbrev pub invariant-loop-place : goal.invariant-loop-place
invariant-loop-place g l =
    (x : Pos) → x.place < l.place
    → covers g.N.Set.ConditionSet.holds l.part x
    ≡ (bit (get_or (g.N.Network.meaning l.net).marks x.place 0) l.k && ltb x.setting (2 ^ g.N.Set.ConditionSet.count))

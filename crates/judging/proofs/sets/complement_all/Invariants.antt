use Rattle.std.proofs.Common.{◌≡◌, ◌^◌, ◌<◌, ◌≤◌, not, ◌&&◌, ltb}
use Rattle.routing.specs.Net.{Pos}
use Rattle.judging.specs.Judged.{covers}
use Rattle.judging.proofs.sets.complement_all.Given as goal

abbrev pub invariant-loop-set : goal.invariant-loop-set
invariant-loop-set g l =
    let holds = g.S.ConditionSet.holds in
    ((x : Pos) → x.place < l.set-index → covers holds l.sets x ≡ (ltb x.setting (2 ^ g.S.ConditionSet.count) && not (covers holds l.initial.sets x)))
    × ((x : Pos) → l.set-index ≤ x.place → covers holds l.sets x ≡ covers holds l.initial.sets x)

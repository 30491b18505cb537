use Rattle.std.proofs.Common.{◌≡◌, ◌+◌, ◌-◌, [], map, length, take, drop}
use Rattle.routing.specs.Net.{places}
use Rattle.judging.specs.Judged.{covers}
use Rattle.judging.specs.Chosen.{walk_always}
use Rattle.judging.specs.Steps.{as_pos}
use Rattle.judging.proofs.always.walk_within.Given as goal

abbrev pub invariant-loop-count : goal.invariant-loop-count
invariant-loop-count g l =
    let N = g.N.Network.meaning l.net in
    let X = covers g.N.Set.ConditionSet.holds l.sets in
    (walk_always N X (places N + 1) [] (as_pos l.initial.at) ≡ walk_always N X (places N + 1 - l.count) (map as_pos (take l.count l.steps)) (as_pos l.at))
    × (drop l.count l.steps ≡ drop l.count l.initial.steps)
    × (length l.steps ≡ length l.initial.steps)

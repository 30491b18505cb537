use Rattle.std.proofs.Common.{◌≡◌, ◌-◌, ◌++◌, map, length, take, drop}
use Rattle.judging.specs.Notes.{walk_noted}
use Rattle.judging.specs.Steps.{as_pos}
use Rattle.judging.proofs.until.walk_down.Given as goal

abbrev pub invariant-loop-count : goal.invariant-loop-count
invariant-loop-count g l =
    let N = g.N.Network.meaning l.net in
    (walk_noted N l.notes l.hops (as_pos l.initial.at)
    ≡ map as_pos (take l.count l.steps) ++ walk_noted N l.notes (l.hops - l.count) (as_pos l.at))
    × (drop l.count l.steps ≡ drop l.count l.initial.steps)
    × (length l.steps ≡ length l.initial.steps)

use Rattle.std.proofs.Common.{◌≡◌, ℕ, ◌<◌, Bool, false}
use Rattle.routing.specs.Net.{Pos, Within}
use Rattle.rounds.specs.Truth.{grown}
use Rattle.judging.specs.Judged.{covers}
use Rattle.judging.specs.Notes.{Noted}
use Rattle.judging.specs.Steps.{as_pos}
use Rattle.judging.proofs.notes.note_rounds.Given as goal

abbrev pub invariant-loop-round : goal.invariant-loop-round
invariant-loop-round g l =
    let holds = g.N.Set.ConditionSet.holds in
    let N = g.N.Network.meaning l.net in
    let T : ℕ → Pos → Bool = grown N (covers holds l.p) (covers holds l.initial.part) in
    ((y : Pos) → Within N y → covers holds l.part y ≡ T l.round y)
    × ((j : ℕ) → j < l.round → T j (as_pos l.start) ≡ false)
    × Noted N T l.round l.notes

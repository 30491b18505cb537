use Rattle.std.proofs.Common.{◌≡◌, ℕ, ◌<◌, ◌≤◌}
use Rattle.judging.specs.Judged.{covers}
use Rattle.judging.specs.Chosen.{entering}
use Rattle.judging.specs.Notes.{note_of, noted_at}
use Rattle.judging.proofs.notes.note_entered.Given as goal

abbrev pub invariant-loop-place : goal.invariant-loop-place
invariant-loop-place g l =
    let enter = entering (g.N.Network.meaning l.net) (covers g.N.Set.ConditionSet.holds l.sets) in
    ((t : ℕ) → t < l.place → note_of l.notes t ≡ noted_at (note_of l.initial.notes t) (enter t) l.round)
    × ((t : ℕ) → l.place ≤ t → note_of l.notes t ≡ note_of l.initial.notes t)

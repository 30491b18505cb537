use Rattle.std.proofs.Common.{ℕ, Bool}
use Rattle.routing.specs.Net.{Pos}
use Rattle.rounds.specs.Claims.{Is}
use Rattle.rounds.specs.Rounds.{Decided}
use Rattle.judging.specs.Judged.{covers}
use Rattle.judging.specs.Callbacks.{Makes, Turns}
use Rattle.judging.proofs.Turns.{Reached}
use Rattle.judging.proofs.row_rounds.settle.Given as goal

abbrev pub invariant-loop-round : goal.invariant-loop-round
invariant-loop-round g l =
    let holds = g.N.Set.ConditionSet.holds in
    let N = g.N.Network.meaning l.net in
    (f : Bool → Bool → Bool → Bool) (t : ℕ → Pos → Bool) → Makes holds (goal.F-post g l.rule) f → Turns N f (covers holds l.p) t
    → Decided N (covers holds l.initial.part) (Is (t 0)) → Reached N (λ i. Is (t i)) (covers holds l.part) l.round

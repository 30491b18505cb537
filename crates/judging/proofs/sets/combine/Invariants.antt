use Rattle.std.proofs.Common.{Bool, Decides}
use Rattle.judging.specs.Callbacks.{Makes}
use Rattle.judging.proofs.Updates.{MadeBy, Beyond, Unchanged}
use Rattle.judging.proofs.sets.combine.Given as goal

abbrev pub invariant-loop-i : goal.invariant-loop-i
invariant-loop-i g l =
    let holds = g.S.ConditionSet.holds in
    let start = l.initial.sets in
    ((f : Bool → Bool → Bool → Bool) → Makes holds (goal.F-post g l.rule) f → MadeBy holds start l.p l.q f l.sets l.i)
    × Beyond holds start l.p l.q l.sets l.i
    × Decides l.settled (Unchanged holds start l.p l.q l.sets l.i)

use Rattle.judging.proofs.Sofar.{Sofar}
use Rattle.judging.proofs.judge.judge_rows.Given as goal

abbrev pub invariant-loop-number : goal.invariant-loop-number
invariant-loop-number g l = Sofar g.N.Set.ConditionSet.holds (g.N.Network.meaning l.net) l.table l.initial.main l.main l.number l.rounds

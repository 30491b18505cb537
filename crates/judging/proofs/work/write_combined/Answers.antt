use Rattle.std.proofs.Common.{◌≡◌, List, subst, arith}
use Rattle.judging.specs.Judged.{covers}
use Rattle.judging.proofs.work.write_combined.Goals as goal

pub returns : goal.returns
returns g c = λ f makes x l.
    let holds = g.S.ConditionSet.holds in
    let second = covers holds c.args.second.now x in
    subst (λ (xs : List g.row.S.Denot). covers holds c.combine.new.sets x ≡ f (covers holds xs x) second second) c.copy_from_slice.ensures.after
    (c.combine.ensures.after f makes x (omega arith))

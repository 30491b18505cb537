use Rattle.std.proofs.Common.{◌∙◌, ap, ◌&&◌, ltb, ◌^◌, add-one}
use Rattle.paper.specs.Own.{as_asked, all_as_asked}
use Rattle.board.proofs.Entries.{and_later}
use Rattle.board.proofs.when.When.new.Goals as goal

pub loop-k-preserved : goal.loop-k-preserved
loop-k-preserved g c = λ a.
    let k = c.loop-k.k in
    let on = c.args.on in
    let off = c.args.off in
    rw add-one (
    c.narrowed-set.ensures a
    ∙ ap (λ held. held && as_asked on off a k) (c.loop-k.invariant a)
    ∙ and_later (ltb a (2 ^ g.S.ConditionSet.count)) (all_as_asked k on off a) (as_asked on off a k)
    )

use Rattle.std.proofs.Common.{◌<◌, length, arith}
use Rattle.judging.proofs.Updates.{beyond_more, made_more, unchanged_more}
use Rattle.judging.proofs.sets.combine.Goals as goal

pub loop-i-preserved : goal.loop-i-preserved
loop-i-preserved g c =
    let holds = g.S.ConditionSet.holds in
    let start = c.args.sets.now in
    let one = c.args.p.now in
    let other = c.args.q.now in
    let sets = c.loop-i.sets in
    let i = c.loop-i.i in
    let v = c.rule-after.result in
    let old = c.index-sets-i.result in
    let p = c.index-p-i.result in
    let q = c.index-q-i.result in
    let in_sets : i < length sets = omega arith in
    let in_one : i < length one = omega arith in
    let in_other : i < length other = omega arith in
    let beyond = c.loop-i.invariant.1 in (
      λ f makes. made_more holds start one other sets i v old p q in_sets in_one in_other c.index-sets-i.is c.index-p-i.is c.index-q-i.is beyond f
          (makes old p q v c.rule-after.ensures) (c.loop-i.invariant.0 f makes),
      beyond_more holds start one other sets i v old p q in_sets in_one in_other c.index-sets-i.is c.index-p-i.is c.index-q-i.is beyond,
      unchanged_more holds start one other sets i v old p q in_sets in_one in_other c.index-sets-i.is c.index-p-i.is c.index-q-i.is beyond
          c.loop-i.settled c.same_members-settled.result c.loop-i.invariant.2 c.same_members-settled.ensures,
    )

pub returns-clause-after : goal.returns-clause-after
returns-clause-after g c = λ f makes x within. c.loop-i.invariant.0 f makes x (omega arith)

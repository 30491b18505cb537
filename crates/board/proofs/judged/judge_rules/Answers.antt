use Rattle.std.proofs.Common.{◌≡◌, ℕ, ◌+◌, List, take, Some, subst, sym, arith}
use Rattle.std.proofs.Math.Nat.{mul-le-mul_right}
use Rattle.std.specs.List.{slice_get}
use Rattle.routing.specs.Net.{Net, places}
use Rattle.routing.specs.Rules.{Means}
use Rattle.tables.specs.declared.row.Row.{Row}
use Rattle.judging.specs.Breaking.{table_rule}
use Rattle.verdicts.specs.Verdicts.{Told}
use Rattle.paper.specs.Rules.{HoldsAtEntries, AllHold, RoundsOfAll}
use Rattle.board.specs.Tables.{rows_of}
use Rattle.board.proofs.Judging.{table_at, take_next, hold_more, rounds_more, accepted_each, rows_within}
use Rattle.board.proofs.judged.judge_rules.Goals as goal

pub judge_table-judgement-requires-clause-taken : goal.judge_table-judgement-requires-clause-taken
judge_table-judgement-requires-clause-taken g c =
    let t : List Row = c.as_slice.result.now in
    let listed : slice_get (rows_of c.args.rules.now) c.loop-number.number ≡ Some t =
    table_at c.args.rules.now c.loop-number.number c.index-rules-number.result t c.loop-number-test.true c.index-rules-number.is c.as_slice.ensures.value in
    accepted_each _ (rows_of c.args.rules.now) c.loop-number.number t c.requires.taken listed

pub judge_table-judgement-requires-clause-main : goal.judge_table-judgement-requires-clause-main
judge_table-judgement-requires-clause-main g c =
    let N : Net = g.N.Network.meaning c.args.net.now in
    let t : List Row = c.as_slice.result.now in
    let listed : slice_get (rows_of c.args.rules.now) c.loop-number.number ≡ Some t =
    table_at c.args.rules.now c.loop-number.number c.index-rules-number.result t c.loop-number-test.true c.index-rules-number.is c.as_slice.ensures.value in
    let within = rows_within (rows_of c.args.rules.now) c.loop-number.number t listed in
    let product = mul-le-mul_right (places N) within in
    let room = c.requires.main in
    let kept = c.loop-number.auto.main in
    omega arith

pub returns-in-Breaks : goal.returns-in-Breaks
returns-in-Breaks g c =
    let N : Net = g.N.Network.meaning c.args.net.now in
    let t : List Row = c.as_slice.result.now in
    let listed : slice_get (rows_of c.args.rules.now) c.loop-number.number ≡ Some t =
    table_at c.args.rules.now c.loop-number.number c.index-rules-number.result t c.loop-number-test.true c.index-rules-number.is c.as_slice.ensures.value in (
      t,
      record {
        listed = listed;
        earlier = c.loop-number.invariant.hold;
        breaks = subst (Told N (Means N (table_rule t))) c.in-Breaks.is c.judge_table-judgement.ensures.told;
      },
    )

pub loop-number-preserved : goal.loop-number-preserved
loop-number-preserved g c =
    let N : Net = g.N.Network.meaning c.args.net.now in
    let ts : List (List Row) = rows_of c.args.rules.now in
    let i : ℕ = c.loop-number.number in
    let t : List Row = c.as_slice.result.now in
    let listed : slice_get ts i ≡ Some t =
    table_at c.args.rules.now i c.index-rules-number.result t c.loop-number-test.true c.index-rules-number.is c.as_slice.ensures.value in
    let next = take_next ts i t listed in
    let holds : HoldsAtEntries N t = subst (Told N (Means N (table_rule t))) c.in-Holds.is c.judge_table-judgement.ensures.told in
    let few = c.loop-number.invariant.few in
    let few_more = c.judge_table-judgement.ensures.few in
    record {
      hold = subst (AllHold N) (sym next) (hold_more N (take i ts) t c.loop-number.invariant.hold holds);
      counted =
          subst (λ (us : List (List Row)). RoundsOfAll N us (c.loop-number.rounds + c.judge_table-judgement.result.rounds)) (sym next)
          (rounds_more N (take i ts) t _ _ c.loop-number.invariant.counted c.judge_table-judgement.ensures.counted);
      few = omega arith;
    }

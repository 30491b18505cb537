use Rattle.std.proofs.Common.{refl}
use Rattle.routing.specs.Net.{Net, Pos}
use Rattle.routing.specs.Rules.{Means}
use Rattle.judging.specs.Breaking.{table_rule}
use Rattle.board.proofs.Judging.{told_breaks, failing_within, failing_fails}
use Rattle.board.proofs.judged.judge_next.Goals as goal

pub show_failure-requires-clause-inside : goal.show_failure-requires-clause-inside
show_failure-requires-clause-inside g c =
    let N : Net = g.N.Network.meaning c.args.net.now in
    let P : Pos → Type 0 = Means N (table_rule c.args.table.now) in
    failing_within N P _ _ (told_breaks N P _ _ _ c.judge_table-judgement.ensures.told c.in-Breaks.is)

pub show_failure-requires-clause-breaks : goal.show_failure-requires-clause-breaks
show_failure-requires-clause-breaks g c =
    let N : Net = g.N.Network.meaning c.args.net.now in
    let P : Pos → Type 0 = Means N (table_rule c.args.table.now) in
    failing_fails N P _ _ (told_breaks N P _ _ _ c.judge_table-judgement.ensures.told c.in-Breaks.is)

pub returns-in-Breaks-clause-judged : goal.returns-in-Breaks-clause-judged
returns-in-Breaks-clause-judged g c =
    let N : Net = g.N.Network.meaning c.args.net.now in
    let P : Pos → Type 0 = Means N (table_rule c.args.table.now) in
    let shown = c.show_failure.ensures in
    rw (shown.rule, shown.place, shown.setting) (
      refl,
      told_breaks N P _ _ _ c.judge_table-judgement.ensures.told c.in-Breaks.is,
      shown.chosen,
      shown.shown,
    )

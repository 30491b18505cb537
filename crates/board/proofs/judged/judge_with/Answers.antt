use Rattle.std.proofs.Common.{List, arith}
use Rattle.std.proofs.Math.Nat.{mul-le-mul_right}
use Rattle.routing.specs.Net.{Net, places}
use Rattle.routing.specs.Rules.{Means}
use Rattle.tables.specs.declared.row.Row.{Row}
use Rattle.judging.specs.Breaking.{table_rule}
use Rattle.board.specs.Tables.{rows_of}
use Rattle.board.proofs.Judging.{accepted_each, rows_within, first_here, failing_within, failing_fails}
use Rattle.board.proofs.judged.judge_with.Goals as goal

pub show_failure-requires-clause-taken : goal.show_failure-requires-clause-taken
show_failure-requires-clause-taken g c =
    let t : List Row = c.as_slice.result.now in
    let first = c.in-Breaks.ensures in
    let here = first_here (g.N.Network.meaning c.args.net.now) c.args.rules.now c.in-Breaks.rule _ c.index-rules-rule.result t c.index-rules-rule.is c.as_slice.ensures.value first.0 first.1 in
    accepted_each _ (rows_of c.args.rules.now) c.in-Breaks.rule t c.requires.taken here.listed

pub show_failure-requires-clause-main : goal.show_failure-requires-clause-main
show_failure-requires-clause-main g c =
    let N : Net = g.N.Network.meaning c.args.net.now in
    let t : List Row = c.as_slice.result.now in
    let first = c.in-Breaks.ensures in
    let here = first_here N c.args.rules.now c.in-Breaks.rule _ c.index-rules-rule.result t c.index-rules-rule.is c.as_slice.ensures.value first.0 first.1 in
    let within = rows_within (rows_of c.args.rules.now) c.in-Breaks.rule t here.listed in
    let product = mul-le-mul_right (places N) within in
    let room = c.requires.main in
    let kept = c.judge_rules.auto.main in
    omega arith

pub show_failure-requires-clause-inside : goal.show_failure-requires-clause-inside
show_failure-requires-clause-inside g c =
    let N : Net = g.N.Network.meaning c.args.net.now in
    let first = c.in-Breaks.ensures in
    failing_within N (Means N (table_rule first.0)) _ _ first.1.breaks

pub show_failure-requires-clause-breaks : goal.show_failure-requires-clause-breaks
show_failure-requires-clause-breaks g c =
    let N : Net = g.N.Network.meaning c.args.net.now in
    let t : List Row = c.as_slice.result.now in
    let first = c.in-Breaks.ensures in
    let here = first_here N c.args.rules.now c.in-Breaks.rule _ c.index-rules-rule.result t c.index-rules-rule.is c.as_slice.ensures.value first.0 first.1 in
    failing_fails N (Means N (table_rule t)) _ _ here.breaks

pub returns-in-Breaks-clause-judged : goal.returns-in-Breaks-clause-judged
returns-in-Breaks-clause-judged g c =
    let N : Net = g.N.Network.meaning c.args.net.now in
    let t : List Row = c.as_slice.result.now in
    let first = c.in-Breaks.ensures in
    let here = first_here N c.args.rules.now c.in-Breaks.rule _ c.index-rules-rule.result t c.index-rules-rule.is c.as_slice.ensures.value first.0 first.1 in
    let shown = c.show_failure.ensures in
    rw (shown.rule, shown.place, shown.setting) (record { table = t; first = here; chosen = shown.chosen; shown = shown.shown })

use Rattle.std.proofs.Common.{◌≡◌, ℕ, ◌-◌, List, length, None, sym, subst, arith}
use Rattle.routing.specs.Net.{Net}
use Rattle.routing.specs.Rules.{Means}
use Rattle.tables.specs.declared.row.Row.{Row}
use Rattle.judging.specs.Judged.{RoundsBefore, judge_refusal}
use Rattle.tables.specs.Tables.{rule_at}
use Rattle.verdicts.specs.Verdicts.{Told}
use Rattle.rule_text.specs.Reading.{table_rows}
use Rattle.report.specs.Lines.{verdict_line}
use Rattle.report.proofs.Judged.{never_refused, rule_line}
use Rattle.report.proofs.rule.add_rule.Goals as goal

pub returns-in-Ok : goal.returns-in-Ok
returns-in-Ok g c =
    let N : Net = g.N.Network.meaning c.args.net.now in
    let v = c.in-Ok.judgement.verdict in
    let rounds : ℕ = c.in-Ok.judgement.rounds in
    let rows : List Row = table_rows c.args.table.now in
    let e = c.in-Ok.ensures in
    let told : Told N (Means N (rule_at rows (length rows - 1))) v =
    subst (λ (table : List Row). Told N (Means N (rule_at table (length table - 1))) v) c.rows.ensures e.told in
    let counted : RoundsBefore N rows (length rows) rounds =
    subst (λ (table : List Row). RoundsBefore N table (length table) rounds) c.rows.ensures e.judged.counted in
    record {
      line = verdict_line c.args.rule v rounds;
      short = c.add_verdict.ensures.short;
      adds = c.add_verdict.ensures.adds;
      right = λ t is. rule_line N c.args.rule t rows v rounds is told counted;
    }

pub returns-in_default : goal.returns-in_default
returns-in_default g c =
    let N : Net = g.N.Network.meaning c.args.net.now in
    let main : ℕ = length c.args.main.now in
    let spare : ℕ = length c.args.spare.now in
    let none : judge_refusal N c.rows.result.now main spare ≡ None =
    subst (λ (table : List Row). judge_refusal N table main spare ≡ None) (sym c.rows.ensures)
    (never_refused N (table_rows c.args.table.now) main spare (g.N.Network.fits c.args.net.now) c.requires.taken (omega arith) (omega arith)) in
    let refused = c.in_default.ensures.refusal in
    let z : ◌≡◌ {A = ℕ} 0 1 = cc in
    absurd (omega arith)

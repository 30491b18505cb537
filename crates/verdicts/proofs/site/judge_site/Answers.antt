use Rattle.std.proofs.Common.{rules, ◌-◌, length, IfOk, subst}
use Rattle.routing.specs.Net.{Net}
use Rattle.routing.specs.Rules.{Means}
use Rattle.tables.specs.Tables.{rule_at}
use Rattle.verdicts.specs.Verdicts.{Told}
use Rattle.verdicts.proofs.site.judge_site.Goals as goal

pub returns-clause-told : goal.returns-clause-told
returns-clause-told g c =
    let rows = c.args.table.now in
    subst (λ (N : Net). IfOk c.judge_entries.result (λ j. Told N (Means N (rule_at rows (length rows - 1))) j.verdict)) c.in_ok-site.ensures.meaning c.judge_entries.ensures.told

pub returns-clause-refusal : goal.returns-clause-refusal
returns-clause-refusal g c = search rules

pub returns-clause-judged : goal.returns-clause-judged
returns-clause-judged g c = search rules

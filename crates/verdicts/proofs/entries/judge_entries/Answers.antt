use Rattle.std.proofs.Common.{rules, ℕ, ◌-◌, ◌<◌, length, sym, subst, arith}
use Rattle.routing.specs.Net.{Net, places}
use Rattle.routing.specs.Rules.{Means}
use Rattle.rounds.specs.Claims.{Is}
use Rattle.tables.specs.Tables.{rule_at}
use Rattle.tables.proofs.Fits.{accepted_some}
use Rattle.judging.specs.Judged.{covers, row_part}
use Rattle.verdicts.specs.Verdicts.{Told}
use Rattle.verdicts.proofs.Verdicts.{ready, told_alike}
use Rattle.verdicts.proofs.entries.judge_entries.Goals as goal

pub returns-clause-told : goal.returns-clause-told
returns-clause-told g c =
    let holds = g.N.Set.ConditionSet.holds in
    let N : Net = g.N.Network.meaning c.args.net.now in
    let rows = c.args.table.now in
    let i : ℕ = length rows - 1 in
    let r = ready N rows (length c.args.main.now) (length c.args.spare.now) (sym c.in_ok-rounds.ensures.refusal) in
    let last : i < length rows = (let some = accepted_some N.conditions rows r.taken in omega arith) in
    let told : Told N (Is (covers holds (row_part (places N) i c.judge.new.main))) c.at_entries-verdict.result =
    subst (λ (m : ℕ). Told N (Is (covers holds (row_part m i c.judge.new.main))) c.at_entries-verdict.result) c.places-n.ensures c.at_entries-verdict.ensures in
    told_alike N (Is (covers holds (row_part (places N) i c.judge.new.main))) (Means N (rule_at rows i)) (c.in_ok-rounds.ensures.judged.written i last) c.at_entries-verdict.result told

pub returns-clause-judged : goal.returns-clause-judged
returns-clause-judged g c = search rules

pub returns-in_err-rounds-clause-refusal : goal.returns-in_err-rounds-clause-refusal
returns-in_err-rounds-clause-refusal g c = search rules

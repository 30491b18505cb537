use Rattle.std.proofs.Common.{◌-◌, List, length, IfOk, sym, ap, ◌∙◌, subst}
use Rattle.conditions.specs.declared.word.Word.{Word}
use Rattle.conditions.specs.WordSets.{word_holds}
use Rattle.routing.specs.declared.binding.Binding.{Binding}
use Rattle.routing.specs.Bindings.{net_of}
use Rattle.routing.specs.Rules.{Means}
use Rattle.tables.specs.Tables.{rule_at}
use Rattle.verdicts.specs.Sites.{site_refusal}
use Rattle.verdicts.specs.Verdicts.{Told}
use Rattle.verdicts.proofs.Shutting.{restored}
use Rattle.verdicts.proofs.Rehearsals.{site_ready}
use Rattle.verdicts.proofs.rehearse.rehearse.Goals as goal

pub returns-clause-back : goal.returns-clause-back
returns-clause-back c = c.drop-guard.ensures ∙ restored _ _ _ _ _ c.empty_set-old.ensures.after c.empty_set-old.ensures.value

-- What is judged meanwhile is the shut network, which is not refused.
pub returns-clause-refusal : goal.returns-clause-refusal
returns-clause-refusal c =
    let marks = c.args.marks.now in
    let rows = c.args.table.now in
    let main = length c.args.main.now in
    let spare = length c.args.spare.now in
    c.judge_site.ensures.refusal
    ∙ ap (λ (bs : List (Binding Word)). site_refusal 6 word_holds marks bs rows main spare) (c.view.ensures ∙ c.empty_set-old.ensures.after)
    ∙ site_ready marks c.args.records.now c.args.number rows main spare (sym c.in_ok-check.ensures)
    ∙ c.in_ok-check.ensures

pub returns-clause-told : goal.returns-clause-told
returns-clause-told c =
    let rows = c.args.table.now in
    subst (λ (bs : List (Binding Word)). IfOk c.judge_site.result
    (λ j. Told (net_of 6 word_holds c.args.marks.now bs) (Means (net_of 6 word_holds c.args.marks.now bs) (rule_at rows (length rows - 1))) j.verdict))
    (c.view.ensures ∙ c.empty_set-old.ensures.after) c.judge_site.ensures.told

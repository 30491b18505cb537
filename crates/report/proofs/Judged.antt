-- Judging the table of a rule: it is never refused in the work space, and what it answers is what the rule's line says.
use Rattle.std.proofs.Common.{◌≡◌, ℕ, ◌-◌, ◌*◌, ◌≤◌, Bool, true, false, cond, ◌&&◌, List, length, Some, None, refl, subst, mul-le-mul, arith}
use Rattle.std.proofs.lemmas.Bool.{le-leb}
use Rattle.routing.specs.declared.refusal.Refusal.TheVariants.{BadTable, TooShort}
use Rattle.routing.specs.Net.{Net, places}
use Rattle.routing.specs.Bindings.{Fits}
use Rattle.routing.specs.Rules.{Means}
use Rattle.tables.specs.declared.row.Row.{Row}
use Rattle.verdicts.specs.declared.verdict.Verdict.{Verdict}
use Rattle.judging.specs.Judged.{RoundsBefore, judge_refusal}
use Rattle.tables.specs.Tables.{accepted, rule_at}
use Rattle.verdicts.specs.Verdicts.{Told}
use Rattle.tables.proofs.Fits.{accepted_few}
use Rattle.verdicts.proofs.Verdicts.{told_alike}
use Rattle.report.specs.Lines.{RuleLine, verdict_line}
use Rattle.report.specs.Rules.{Tabled}

three_tests : (t u v : Bool) → t ≡ true → u ≡ true → v ≡ true → cond t (cond (u && v) None (Some TooShort)) (Some BadTable) ≡ None
three_tests true true true a b c = refl
three_tests true true false a b c = let z : ◌≡◌ {A = ℕ} 0 1 = cc in absurd (omega arith)
three_tests true false v a b c = let z : ◌≡◌ {A = ℕ} 0 1 = cc in absurd (omega arith)
three_tests false u v a b c = let z : ◌≡◌ {A = ℕ} 0 1 = cc in absurd (omega arith)

pub never_refused : (N : Net) (rows : List Row) (main spare : ℕ) → Fits N → accepted N.conditions rows ≡ true → 8192 ≤ main → 512 ≤ spare
    → judge_refusal N rows main spare ≡ None
never_refused N rows main spare fits taken room half =
    let few = accepted_few N.conditions rows taken in
    let cells : length rows * places N ≤ 32 * 256 = mul-le-mul few fits.few_places in
    three_tests _ _ _ taken (le-leb _ main (omega arith)) (le-leb _ spare (omega (arith, fits.few_places)))

-- The rule's line, from what judging its table answers.
pub rule_line : (N : Net) (i : ℕ) (t : List ℕ) (rows : List Row) (v : Verdict) (rounds : ℕ) → Tabled t rows
    → Told N (Means N (rule_at rows (length rows - 1))) v → RoundsBefore N rows (length rows) rounds
    → RuleLine N i t (verdict_line i v rounds)
rule_line N i t rows v rounds is told counted = record {
  rule = is.rule;
  verdict = v;
  rounds = rounds;
  is_rule = is.is_rule;
  told = told_alike N (Means N (rule_at rows (length rows - 1))) (Means N is.rule) (λ x w. let e = is.stands N x w in (e.1, e.0)) v told;
  counted = subst (λ (table : List Row). RoundsBefore N table (length table) rounds) is.rows_are counted;
  says = refl;
}

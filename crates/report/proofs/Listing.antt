-- The lines of rules, one behind the other.
use Rattle.std.proofs.Common.{◌≡◌, ℕ, zero, suc, ◌+◌, ◌*◌, ◌<◌, ◌≤◌, List, [], ◌∷◌, ◌++◌, length, take, Some, Option, sym, refl, ap, ◌∙◌, subst, append_assoc, append-nil, add-one, arith, length-append}
use Rattle.std.specs.List.{slice_get}
use Rattle.routing.specs.Net.{Net}
use Rattle.rule_text.specs.declared.table.Table.{Table}
use Rattle.rule_text.specs.Reading.{table_rows}
use Rattle.plan.specs.declared.fault.PlanFault.{PlanFault}
use Rattle.plan.specs.Contents.{plan_net}
use Rattle.plan.specs.Files.{TableOf}
use Rattle.plan.specs.Format.{Plan}
use Rattle.report.specs.declared.outcome.Report.{Report}
use Rattle.report.specs.Lines.{RuleLine, RuleLines}
use Rattle.report.specs.Outcomes.{Added, Adds, report_text}
use Rattle.report.specs.Rules.{LineAdded, Tabled}

-- One more line, behind those of the first n rules.
lines_more : (N : Net) (i n k : ℕ) (texts : List (List ℕ)) (t out line : List ℕ) → k ≡ i + n → slice_get texts n ≡ Some t
    → RuleLines N i (take n texts) out → RuleLine N k t line → RuleLines N i (take (suc n) texts) (out ++ line)
lines_more N i n k [] t out line at here before more = let z : ◌≡◌ {A = ℕ} 0 1 = cc in absurd (omega arith)
lines_more N i zero k (u ∷ us) t out line at here before more =
    let same : i ≡ k = omega arith in
    let text : u ≡ t = cc in (
      line,
      [],
      subst (λ (j : ℕ). RuleLine N j u line) (sym same) (subst (λ (s : List ℕ). RuleLine N k s line) (sym text) more),
      refl,
      ap (λ (o : List ℕ). o ++ line) before ∙ sym (append-nil line),
    )
lines_more N i (suc n) k (u ∷ us) t out line at here before more = (
  before.0,
  before.1 ++ line,
  before.2,
  lines_more N (suc i) n k us t before.1 line (omega arith) here before.3 more,
  ap (λ (o : List ℕ). o ++ line) before.4 ∙ append_assoc before.0 before.1 line,
)

-- The report has the lines of the first n rules of the plan, and the fault that it had.
pub record Printed (p : Plan) (was : Option PlanFault) (n : ℕ) (r : Report) : Type 0 where
  pub lines : RuleLines (plan_net p) 0 (take n p.texts) (report_text r)
  pub short : length (report_text r) ≤ 64 * n
  pub fault : r.fault ≡ was

pub printed_more : (p : Plan) (was : Option PlanFault) (n : ℕ) (before after : Report) (t line : List ℕ) → n < 8 → slice_get p.texts n ≡ Some t → length line ≤ 64
    → Adds before line after → RuleLine (plan_net p) n t line → Printed p was n before → Printed p was (n + 1) after
printed_more p was n before after t line few here short adds more so_far =
    let added : Added before line after = adds.added (omega arith) in
    let lines = lines_more (plan_net p) 0 n n p.texts t (report_text before) line (omega arith) here so_far.lines more in
    record {
      lines = rw add-one (subst (RuleLines (plan_net p) 0 (take (suc n) p.texts)) (sym added.text) lines);
      short = omega (arith, simp length-append at (ap length added.text));
      fault = added.fault ∙ so_far.fault;
    }

-- The line of one more rule of the plan is added.
pub printed_rule : (p : Plan) (was : Option PlanFault) (n : ℕ) (before after : Report) (t : Table) → n < 8 → TableOf p n t
    → LineAdded (plan_net p) n (table_rows t) before after → Printed p was n before → Printed p was (n + 1) after
printed_rule p was n before after t few is added so_far =
    let tabled : Tabled is.text (table_rows t) = record { rule = is.rule; is_rule = is.reads; rows_are = is.rows; stands = is.means } in
    printed_more p was n before after is.text added.line few is.listed added.short added.adds (added.right is.text tabled) so_far

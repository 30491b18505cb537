-- The report of a file, from what opening the file and adding its lines come to.
use Rattle.std.proofs.Common.{◌≡◌, ℕ, List, Some, None, Ok, Err, ap, ◌∙◌, subst, inl, inr, arith}
use Rattle.plan.specs.declared.fault.PlanFault.{PlanFault}
use Rattle.plan.specs.Contents.{plan_net}
use Rattle.plan.specs.Format.{Plan}
use Rattle.plan.specs.Reading.{PlanRead}
use Rattle.plan.proofs.Claimed.{one_answer}
use Rattle.report.specs.declared.outcome.Report.{Report}
use Rattle.report.specs.Lines.{refused_line, RuleLines}
use Rattle.report.specs.Outcomes.{report_text, ReportOf}

-- A file that is refused.
pub refused_report : (file : List ℕ) (r : Report) (e : PlanFault) → PlanRead file (Err e) → report_text r ≡ refused_line e → r.fault ≡ Some e
    → ReportOf file r
refused_report file r e refused text fault =
    let alone : (d : PlanFault) → PlanRead file (Err d) → e ≡ d = λ d other.
    let both_read : Err e ≡ Err d = one_answer file (Err e) (Err d) refused other in
    cc in
    record {
      reported = inl (e, refused, text);
      fault = λ d. (
        λ has. let same : e ≡ d = cc in subst (λ (f : PlanFault). PlanRead file (Err f)) same refused,
        λ other. fault ∙ ap Some (alone d other),
      );
    }

-- A file of a plan.
pub planned_report : (file : List ℕ) (r : Report) (p : Plan) → PlanRead file (Ok p) → RuleLines (plan_net p) 0 p.texts (report_text r)
    → r.fault ≡ None → ReportOf file r
planned_report file r p read lines fault = record {
  reported = inr (p, read, lines);
  fault = λ d. (
    λ has. let z : ◌≡◌ {A = ℕ} 0 1 = cc in absurd (omega arith),
    λ other.
        let both_read : Ok p ≡ Err d = one_answer file (Ok p) (Err d) read other in
        let z : ◌≡◌ {A = ℕ} 0 1 = cc in
        absurd (omega arith),
  );
}

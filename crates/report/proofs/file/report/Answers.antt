use Rattle.plan.specs.Files.{file_plan}
use Rattle.report.proofs.Reporting.{refused_report, planned_report}
use Rattle.report.proofs.file.report.Goals as goal

pub returns-in-Ok : goal.returns-in-Ok
returns-in-Ok c =
    planned_report c.args.bytes.now c.plan_report.result (file_plan c.in-Ok.plan) c.in-Ok.ensures.1 c.plan_report.ensures.lines c.plan_report.ensures.fault

pub returns-in-Err : goal.returns-in-Err
returns-in-Err c = refused_report c.args.bytes.now c.refusal_report.result c.in-Err.fault c.in-Err.ensures c.refusal_report.ensures.text c.refusal_report.ensures.fault

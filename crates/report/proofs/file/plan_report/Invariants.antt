use Rattle.std.proofs.Common.{◌≡◌, length, None}
use Rattle.plan.specs.Files.{file_plan}
use Rattle.report.proofs.Listing.{Printed}
use Rattle.report.proofs.file.plan_report.Given as goal

abbrev pub invariant-loop-rule : goal.invariant-loop-rule
invariant-loop-rule l = record {
  printed : Printed (file_plan l.plan) None l.rule l.report;
  main : length l.main ≡ 8192;
  spare : length l.spare ≡ 512;
}

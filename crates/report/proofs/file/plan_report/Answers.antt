use Rattle.std.proofs.Common.{◌+◌, ◌<◌, length, None, sym, ap, subst, arith}
use Rattle.plan.specs.Files.{file_plan}
use Rattle.report.proofs.Listing.{Printed, printed_rule}
use Rattle.report.proofs.file.plan_report.Goals as goal
use Rattle.report.proofs.file.plan_report.Goals.{in-Some, in_default}

pub loop-rule-preserved : goal.loop-rule-preserved
loop-rule-preserved c =
    let p = file_plan c.args.plan.now in
    let few : c.loop-rule.rule < 8 = omega arith in
    let inv = c.loop-rule.invariant in
    elim c.match-table.branch [
      | in-Some w ↦
          let more = printed_rule p None c.loop-rule.rule c.loop-rule.report w.add_rule.new.report w.in-Some.table few w.in-Some.ensures w.add_rule.ensures inv.printed in
          record {
            printed = subst (Printed p None (c.loop-rule.rule + 1)) (sym w.report-is) more;
            main = omega (arith, ap length w.main-is, w.add_rule.auto.main);
            spare = omega (arith, ap length w.spare-is, w.add_rule.auto.spare);
          }
      | in_default w ↦ let past = w.in_default.ensures in absurd (omega arith)
    ]

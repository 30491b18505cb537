use Rattle.std.proofs.Common.{arith, length-append}
use Rattle.report.specs.Lines.{holds_line}
use Rattle.report.proofs.Adding.{adds_then}
use Rattle.report.proofs.outcome.Report.add_holds.Goals as goal

pub returns : goal.returns
unfolding holds_line
returns c = record {
  adds = adds_then c.add_number.ensures.adds (adds_then c.add.ensures (adds_then c.add_number-2.ensures.adds c.add-2.ensures));
  short = simp length-append (omega arith);
}

use Rattle.std.proofs.Common.{arith, length-append}
use Rattle.report.specs.Lines.{breaks_line}
use Rattle.report.proofs.Adding.{adds_then}
use Rattle.report.proofs.outcome.Report.add_breaks.Goals as goal

pub returns : goal.returns
unfolding breaks_line
returns c = record {
  adds =
      adds_then c.add_number.ensures.adds
      (adds_then c.add.ensures
      (adds_then c.add_number-2.ensures.adds
      (adds_then c.add-2.ensures
      (adds_then c.add_number-3.ensures.adds
      (adds_then c.add-3.ensures (adds_then c.add_number-4.ensures.adds c.add-4.ensures))))));
  short = simp length-append (omega arith);
}

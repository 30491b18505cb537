use Rattle.std.proofs.Common.{decimal, ap, arith, length-append}
use Rattle.report.specs.Lines.{refused_line}
use Rattle.report.proofs.Adding.{adds_then, adds_same}
use Rattle.report.proofs.outcome.Report.add_refusal.Goals as goal

pub returns : goal.returns
unfolding refused_line
returns c =
    let spelled = ap decimal c.number.ensures in
    let number = adds_same spelled c.add_number.ensures.adds in
    let short = rw spelled at c.add_number.ensures.short in
    record {
      adds = adds_then c.add.ensures (adds_then number (adds_then c.add-2.ensures (adds_then c.add_fault_place.ensures.adds c.add-3.ensures)));
      short = simp length-append (omega arith);
    }

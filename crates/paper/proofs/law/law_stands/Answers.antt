use Rattle.paper.proofs.Histories.{run_law, run_told}
use Rattle.paper.proofs.Once.{run_once, never_both}
use Rattle.paper.proofs.Some.{run_some}
use Rattle.paper.proofs.law.law_stands.Goals as goal

pub returns : goal.returns
returns c = record { lawful = run_law; told = run_told; one = run_once; some = run_some; either = never_both }

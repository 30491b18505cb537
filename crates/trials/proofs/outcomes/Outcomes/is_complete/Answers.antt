use Rattle.std.proofs.Common.{rules, tests, nat_lt}
use Rattle.std.proofs.lemmas.Iterator.{YieldsList-from_slice}
use Rattle.std.proofs.lemmas.Iterator.Search.{all_from_yields_List}
use Rattle.trials.specs.Counts.{refused_by}
use Rattle.trials.proofs.outcomes.Outcomes.is_complete.Goals as goal

pub returns-then-all : goal.returns-then-all
returns-then-all c =
    let came = all_from_yields_List (λ k. nat_lt 0 (refused_by c.args.self.now k)) _ _ c.all.result c.all.ensures.ran (YieldsList-from_slice c.args.self.now.refusals.now cc) (λ x b q k. search (rules, tests)) in
    search (rules, tests)

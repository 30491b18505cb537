use Rattle.board.proofs.Judging.{few_rounds}
use Rattle.board.proofs.judged.judge_table.Goals as goal

pub returns-clause-few : goal.returns-clause-few
returns-clause-few g c =
    few_rounds (g.N.Network.meaning c.args.net.now) c.args.table.now _ (g.N.Network.fits c.args.net.now) c.requires.taken c.in-Ok.ensures.judged.counted

use Rattle.std.proofs.Common.{rules}
use Rattle.board.proofs.board.Board.open_proposals.Goals as goal

pub returns : goal.returns
returns g c = search rules

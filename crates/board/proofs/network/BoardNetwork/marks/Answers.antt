use Rattle.std.proofs.Common.{rules}
use Rattle.board.proofs.network.BoardNetwork.marks.Goals as goal

pub returns : goal.returns
returns g c = search rules

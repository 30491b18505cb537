use Rattle.std.proofs.Common.{rules}
use Rattle.board.proofs.board.Board.propose.Goals as goal

pub returns-clause-does : goal.returns-clause-does
returns-clause-does g c = search rules

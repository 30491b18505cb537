use Rattle.std.proofs.Common.{rules}
use Rattle.board.proofs.board.Board.adopt.Goals as goal

pub returns-in-Ok-clause-does : goal.returns-in-Ok-clause-does
returns-in-Ok-clause-does g c = search rules

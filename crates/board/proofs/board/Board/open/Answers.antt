use Rattle.std.proofs.Common.{rules}
use Rattle.board.proofs.board.Board.open.Goals as goal

pub returns-in-Ok-open-clause-opened : goal.returns-in-Ok-open-clause-opened
returns-in-Ok-open-clause-opened g c = search rules

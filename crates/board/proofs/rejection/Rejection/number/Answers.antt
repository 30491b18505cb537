use Rattle.std.proofs.Common.{rules}
use Rattle.board.proofs.rejection.Rejection.number.Goals as goal

pub returns-in-TurnedDown : goal.returns-in-TurnedDown
returns-in-TurnedDown c = search rules

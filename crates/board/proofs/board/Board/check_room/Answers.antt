use Rattle.std.proofs.Common.{arith}
use Rattle.std.proofs.lemmas.Grind.{common_steps}
use Rattle.board.proofs.board.Board.check_room.Goals as goal

pub returns-in-Bind : goal.returns-in-Bind
returns-in-Bind g c = grind (arith, common_steps)

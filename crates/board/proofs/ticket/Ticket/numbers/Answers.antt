use Rattle.std.proofs.Common.{rules}
use Rattle.board.proofs.ticket.Ticket.numbers.Goals as goal

pub returns : goal.returns
returns c = search rules

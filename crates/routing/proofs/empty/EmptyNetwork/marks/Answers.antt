use Rattle.std.proofs.Common.{rules}
use Rattle.routing.proofs.empty.EmptyNetwork.marks.Goals as goal

pub returns : goal.returns
returns g c = search rules

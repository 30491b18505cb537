use Rattle.std.proofs.Common.{rules}
use Rattle.routing.proofs.empty.EmptyNetwork.bindings.Goals as goal

pub returns : goal.returns
returns g c = search rules

use Rattle.std.proofs.Common.{rules}
use Rattle.routing.proofs.lent.RefNetwork.binding.Goals as goal

pub returns-clause-value : goal.returns-clause-value
returns-clause-value g c = search rules

use Rattle.std.proofs.Common.{arith}
use Rattle.std.proofs.lemmas.Grind.{elements}
use Rattle.routing.proofs.site.table.SiteTableNetwork.marks.Goals as goal

pub returns : goal.returns
returns g c = grind (arith, elements)

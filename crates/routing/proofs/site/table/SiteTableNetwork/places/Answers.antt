use Rattle.std.proofs.Common.{rules}
use Rattle.routing.proofs.site.table.SiteTableNetwork.places.Goals as goal

pub returns : goal.returns
returns g c = search rules

use Rattle.std.proofs.Common.{rules}
use Rattle.routing.proofs.site.SiteTable.lent_records.Goals as goal

pub returns : goal.returns
returns c = search rules

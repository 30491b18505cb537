use Rattle.std.proofs.Common.{rules}
use Rattle.routing.proofs.site.SiteTable.lent_marks.Goals as goal

pub returns : goal.returns
returns c = search rules

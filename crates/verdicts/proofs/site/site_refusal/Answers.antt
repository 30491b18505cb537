use Rattle.std.proofs.Common.{rules}
use Rattle.verdicts.proofs.site.site_refusal.Goals as goal

pub returns : goal.returns
returns g c = search rules

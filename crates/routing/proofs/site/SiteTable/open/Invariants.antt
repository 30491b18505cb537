use Rattle.std.proofs.Common.{◌≡◌, true, length, take}
use Rattle.routing.specs.Refusals.{all_inside}
use Rattle.routing.proofs.site.SiteTable.open.Given as goal

abbrev pub invariant-loop-b : goal.invariant-loop-b
invariant-loop-b g l = all_inside (length l.marks) (take l.b-index l.records) ≡ true

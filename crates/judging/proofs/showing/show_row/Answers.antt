use Rattle.std.proofs.Common.{◌≡◌, ◌<◌, true, refl, subst, arith}
use Rattle.routing.specs.Net.{Net, places}
use Rattle.tables.specs.declared.row.Operation.{Operation}
use Rattle.tables.specs.Tables.{coded}
use Rattle.judging.specs.Shapes.{first_is_row}
use Rattle.judging.proofs.Operands.{part_before, part_long}
use Rattle.judging.proofs.showing.show_row.Goals as goal

pub show_next-requires-clause-sets : goal.show_next-requires-clause-sets
show_next-requires-clause-sets g c =
    let N : Net = g.N.Network.meaning c.args.net.now in
    let p = c.in-Next.p in
    let row = c.args.row in
    let earlier = subst (λ (o : Operation). first_is_row o ≡ true → (coded o).first < row) c.in-Next.is c.requires.first refl in
    let before = part_before p row (places N) earlier in
    part_long N c.places-n.result p c.args.main.now c.part_of.result.now c.places-n.ensures (omega arith) c.part_of.ensures

pub walk_within-requires-clause-sets : goal.walk_within-requires-clause-sets
walk_within-requires-clause-sets g c =
    part_long (g.N.Network.meaning c.args.net.now) c.places-n.result c.args.row c.args.main.now c.part_of-in-Always.result.now
    c.places-n.ensures c.requires.room c.part_of-in-Always.ensures

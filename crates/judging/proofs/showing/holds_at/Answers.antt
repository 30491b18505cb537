use Rattle.std.proofs.Common.{ℕ, List, sym, ap, ◌∙◌, arith}
use Rattle.judging.specs.Judged.{covers, row_part}
use Rattle.judging.specs.Steps.{as_pos}
use Rattle.judging.proofs.Covers.{covers_read}
use Rattle.judging.proofs.Operands.{part_long}
use Rattle.judging.proofs.showing.holds_at.Goals as goal

pub offset_bounds-part-at : goal.offset_bounds-part-at
offset_bounds-part-at g c =
    let long = part_long (g.N.Network.meaning c.args.net.now) c.places.result c.args.row c.args.main.now c.part_of-part.result.now
    c.places.ensures c.requires.room c.part_of-part.ensures in
    omega arith

pub bounds-part-at : goal.bounds-part-at
bounds-part-at g c =
    let long = part_long (g.N.Network.meaning c.args.net.now) c.places.result c.args.row c.args.main.now c.part_of-part.result.now
    c.places.ensures c.requires.room c.part_of-part.ensures in
    omega arith

pub returns : goal.returns
returns g c =
    let holds = g.N.Set.ConditionSet.holds in
    let x = as_pos c.args.at in
    let part = c.part_of-part.result.now in
    let long = part_long (g.N.Network.meaning c.args.net.now) c.places.result c.args.row c.args.main.now part
    c.places.ensures c.requires.room c.part_of-part.ensures in
    let same = c.part_of-part.ensures ∙ ap (λ (n : ℕ). row_part n c.args.row c.args.main.now) c.places.ensures in
    c.contains.ensures ∙ sym (covers_read holds part x c.index-part-at.result (omega arith) c.index-part-at.is)
    ∙ ap (λ (xs : List g.row.N-Set.Denot). covers holds xs x) same

use Rattle.std.proofs.Common.{Some, subst}
use Rattle.routing.specs.Net.{Net}
use Rattle.judging.specs.Breaking.{Explained}
use Rattle.judging.specs.Steps.{as_pos}
use Rattle.board.proofs.Judging.{route_chosen, route_right}
use Rattle.board.proofs.judged.show_failure.Goals as goal

pub returns-in-Ok-Some-clause-chosen : goal.returns-in-Ok-Some-clause-chosen
returns-in-Ok-Some-clause-chosen g c =
    let N : Net = g.N.Network.meaning c.args.net.now in
    let explained : Explained N c.args.table.now (as_pos c.args.at) c.args.steps.now c.show_breaking.new.steps (Some c.in-Ok-Some.broken) =
    subst (Explained N c.args.table.now (as_pos c.args.at) c.args.steps.now c.show_breaking.new.steps) c.in-Ok-Some.field-0-is c.in-Ok-Some.ensures.2 in
    route_chosen N c.args.table.now (as_pos c.args.at) c.args.steps.now c.show_breaking.new.steps c.in-Ok-Some.broken explained

pub returns-in-Ok-Some-clause-shown : goal.returns-in-Ok-Some-clause-shown
returns-in-Ok-Some-clause-shown g c =
    let N : Net = g.N.Network.meaning c.args.net.now in
    let explained : Explained N c.args.table.now (as_pos c.args.at) c.args.steps.now c.show_breaking.new.steps (Some c.in-Ok-Some.broken) =
    subst (Explained N c.args.table.now (as_pos c.args.at) c.args.steps.now c.show_breaking.new.steps) c.in-Ok-Some.field-0-is c.in-Ok-Some.ensures.2 in
    route_right N c.args.table.now (as_pos c.args.at) c.args.steps.now c.show_breaking.new.steps c.in-Ok-Some.broken explained

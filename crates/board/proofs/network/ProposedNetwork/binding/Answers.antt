use Rattle.std.proofs.Common.{◌≡◌, List, slice_get, Some, ap, sym, ◌∙◌, arith, length-append}
use Rattle.routing.specs.Net.{Link}
use Rattle.paper.specs.declared.own.OwnBinding.{OwnBinding}
use Rattle.paper.specs.Own.{changed}
use Rattle.board.specs.Entries.{binding_of, bindings_of, kept_binding}
use Rattle.board.specs.Possible.{change_of}
use Rattle.board.proofs.Listed.{ends_of}
use Rattle.board.specs.Fitting.{ends_changed}
use Rattle.board.proofs.network.ProposedNetwork.binding.Goals as goal

pub returns-clause-ends : goal.returns-clause-ends
returns-clause-ends g c =
    let b = c.args.self.now.board.now in
    let own : List OwnBinding = changed (change_of c.args.self.now.change) (bindings_of c.args.self.now.board.now.own.items.items) in
    let own_b : OwnBinding = binding_of c.in-Some.entry in
    let got : slice_get own c.args.number ≡ Some own_b = sym c.entry.ensures ∙ ap kept_binding c.in-Some.is in
    let inside = ends_of b.front.count own c.args.number own_b (ends_changed b.front.count (change_of c.args.self.now.change) (bindings_of b.own.items.items) c.args.self.now.possible b.ends) got in
    let all = length-append b.front.marks.items (g.F.Network.meaning b.front.far).marks in
    let counted = b.front.counted in
    let from = ap (λ (l : Link). l.from) c.binding.ensures in
    let to = ap (λ (l : Link). l.to) c.binding.ensures in
    (omega (arith, inside.0), omega (arith, inside.1))

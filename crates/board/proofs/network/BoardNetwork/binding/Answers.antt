use Rattle.std.proofs.Common.{◌≡◌, List, map, length, slice_get, Some, None, ap, sym, ◌∙◌, subst, arith, length-append}
use Rattle.std.proofs.lemmas.List.{length-map}
use Rattle.routing.specs.Bindings.{linked}
use Rattle.routing.specs.Net.{Link}
use Rattle.paper.specs.declared.own.OwnBinding.{OwnBinding}
use Rattle.paper.specs.Own.{own_link}
use Rattle.paper.specs.Paper.{moved}
use Rattle.board.specs.Entries.{binding_of, bindings_of, kept_binding}
use Rattle.board.proofs.Listed.{kept_get, length_kept, link_own, none_past, ends_of, far_answer}
use Rattle.board.proofs.network.BoardNetwork.binding.Goals as goal

pub returns-in-Some-clause-value : goal.returns-in-Some-clause-value
returns-in-Some-clause-value g c =
    let b = c.args.self.now in
    let own : List OwnBinding = bindings_of c.args.self.now.own.items.items in
    let own_b : OwnBinding = binding_of c.in-Some.entry in
    let got : slice_get own c.args.number ≡ Some own_b = sym (kept_get c.args.self.now.own.items.items c.args.number) ∙ ap kept_binding (sym c.get.ensures ∙ c.in-Some.is) in
    let K = (g.F.Network.meaning b.front.far).conditions in
    let same : own_link K own_b ≡ linked g.F.Set.ConditionSet.holds c.binding.result =
    subst (λ k. own_link k own_b ≡ linked g.F.Set.ConditionSet.holds c.binding.result) (sym (g.met.F.Network.over b.front.far)) (sym c.binding.ensures) in
    link_own K own _ c.args.number own_b got ∙ ap Some same

pub returns-in-Some-clause-ends : goal.returns-in-Some-clause-ends
returns-in-Some-clause-ends g c =
    let b = c.args.self.now in
    let own : List OwnBinding = bindings_of c.args.self.now.own.items.items in
    let own_b : OwnBinding = binding_of c.in-Some.entry in
    let got : slice_get own c.args.number ≡ Some own_b = sym (kept_get c.args.self.now.own.items.items c.args.number) ∙ ap kept_binding (sym c.get.ensures ∙ c.in-Some.is) in
    let inside = ends_of b.front.count own c.args.number own_b (b.ends) got in
    let all = length-append b.front.marks.items (g.F.Network.meaning b.front.far).marks in
    let counted = b.front.counted in
    let from = ap (λ (l : Link). l.from) c.binding.ensures in
    let to = ap (λ (l : Link). l.to) c.binding.ensures in
    (omega (arith, inside.0), omega (arith, inside.1))

pub returns-in-None-clause-value : goal.returns-in-None-clause-value
returns-in-None-clause-value g c =
    let b = c.args.self.now in
    let own : List OwnBinding = bindings_of c.args.self.now.own.items.items in
    let none : slice_get own c.args.number ≡ None = sym (kept_get b.own.items.items c.args.number) ∙ ap kept_binding (sym c.get.ensures ∙ c.in-None.is) in
    let far : List Link = map (moved (length b.front.marks.items)) (g.F.Network.meaning b.front.far).bindings in
    far_answer _ own far _ c.len.result c.args.number c.far_binding.result (linked g.F.Set.ConditionSet.holds)
    (none_past own c.args.number none) (length_kept b.own.items.items ∙ sym c.len.ensures.value) (length-map (g.F.Network.meaning b.front.far).bindings (moved (length b.front.marks.items))) c.far_binding.ensures.value

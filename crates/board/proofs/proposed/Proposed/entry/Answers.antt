use Rattle.std.proofs.Common.{◌≡◌, slice_get, None, Some, ap, sym, ◌∙◌}
use Rattle.paper.specs.Own.{reconditioned}
use Rattle.board.specs.Entries.{binding_of, bindings_of, kept_binding}
use Rattle.board.proofs.Listed.{kept_get, reconditioned_none, reconditioned_at, reconditioned_other}
use Rattle.board.proofs.proposed.Proposed.entry.Goals as goal

pub returns-in_default : goal.returns-in_default
returns-in_default g c =
    let es = c.args.self.now.board.now.own.items.items in
    let none : slice_get (bindings_of es) c.args.number ≡ None = sym (kept_get es c.args.number) ∙ ap kept_binding (sym c.get-in-Forwards.ensures ∙ c.in_default.is) in
    rw c.in-Forwards.is (sym (reconditioned_none c.in-Forwards.i c.in-Forwards.when.on c.in-Forwards.when.off (bindings_of es) c.args.number none))

pub returns-then-number-i-2 : goal.returns-then-number-i-2
returns-then-number-i-2 g c =
    let es = c.args.self.now.board.now.own.items.items in
    let got : slice_get (bindings_of es) c.args.number ≡ Some (binding_of c.in-Some.entry) =
    sym (kept_get es c.args.number) ∙ ap kept_binding (sym c.get-in-Forwards.ensures ∙ c.in-Some.is) in
    let w = c.in-Forwards.when in
    let here : slice_get (reconditioned c.args.number w.on w.off (bindings_of es)) c.args.number ≡ Some (record { from = c.in-Some.entry.from; to = c.in-Some.entry.to; on = w.on; off = w.off }) =
    reconditioned_at c.args.number w.on w.off (bindings_of es) (binding_of c.in-Some.entry) got in
    rw (c.in-Forwards.is, ← c.if-number-i-2.true) (sym here)

pub returns-else-number-i-2 : goal.returns-else-number-i-2
returns-else-number-i-2 g c =
    let es = c.args.self.now.board.now.own.items.items in
    let got : slice_get (bindings_of es) c.args.number ≡ Some (binding_of c.in-Some.entry) =
    sym (kept_get es c.args.number) ∙ ap kept_binding (sym c.get-in-Forwards.ensures ∙ c.in-Some.is) in
    let w = c.in-Forwards.when in
    rw c.in-Forwards.is (sym (reconditioned_other c.in-Forwards.i w.on w.off (bindings_of es) c.args.number c.if-number-i-2.false ∙ got))

use Rattle.std.proofs.Common.{◌≡◌, true, refl, ap, sym, ◌∙◌}
use Rattle.board.specs.Entries.{bindings_of}
use Rattle.board.specs.Fitting.{ends_changed}
use Rattle.board.specs.Possible.{ends_inside, can_make, can_make_open, change_of}
use Rattle.board.proofs.board.Board.admit_numbers.Goals as goal

pub invariant_of-self : goal.invariant_of-self
invariant_of-self g c =
    let b = c.args.self.now in
    let n = b.front.count in
    let change = c.in_ok-change.change in
    let can : can_make n (change_of change) (bindings_of b.own.items.items) ≡ true =
    ap (λ p. can_make_open n p (bindings_of b.own.items.items)) (sym c.in_ok-change.ensures.change) ∙ b.open_change in
    record {
      ends = ap (ends_inside n) c.make.ensures ∙ ends_changed n (change_of change) (bindings_of b.own.items.items) can b.ends;
      open_change = refl;
      taken = b.taken;
    }

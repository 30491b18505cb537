use Rattle.std.proofs.Common.{ℕ, ◌+◌, ◌*◌, ◌≤◌, length, sym, subst, arith}
use Rattle.judging.proofs.Operands.{part_before}
use Rattle.judging.proofs.showing.show_until.Goals as goal

pub copy_operand-requires-clause-within : goal.copy_operand-requires-clause-within
copy_operand-requires-clause-within g c =
    let n = c.places-n.result in
    let long = length c.args.main.now in
    let room : c.args.row * n + n ≤ long = subst (λ (m : ℕ). c.args.row * m + m ≤ long) (sym c.places-n.ensures) c.requires.room in
    let before = part_before c.args.p c.args.row n c.requires.first in
    omega arith

pub copy_operand-requires-2-clause-within : goal.copy_operand-requires-2-clause-within
copy_operand-requires-2-clause-within g c =
    let n = c.places-n.result in
    let long = length c.args.main.now in
    let room : c.args.row * n + n ≤ long = subst (λ (m : ℕ). c.args.row * m + m ≤ long) (sym c.places-n.ensures) c.requires.room in
    let before = part_before c.args.q c.args.row n c.requires.second in
    omega arith

pub slice_bounds-part-end : goal.slice_bounds-part-end
slice_bounds-part-end g c =
    subst (λ (m : ℕ). c.args.row * m + m ≤ length c.args.main.now) (sym c.places-n.ensures) c.requires.room

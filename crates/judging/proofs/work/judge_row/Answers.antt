use Rattle.std.proofs.Common.{◌≡◌, ℕ, ◌+◌, ◌*◌, ◌≤◌, length, sym, ◌∙◌, subst, arith, length-drop, length-take}
use Rattle.routing.specs.Net.{Net}
use Rattle.tables.specs.Tables.{coded}
use Rattle.judging.specs.Judged.{covers, row_part}
use Rattle.judging.specs.Shapes.{first_is_row, second_is_row}
use Rattle.judging.proofs.Operands.{operand_within, copied, made_of, Done, done}
use Rattle.judging.proofs.work.judge_row.Goals as goal

pub copy_operand-requires : goal.copy_operand-requires
copy_operand-requires g c =
    let n = c.places-n.result in
    let op = c.args.op in
    let room : c.args.row * n + n ≤ length c.args.main.now = subst (λ (m : ℕ). c.args.row * m + m ≤ length c.args.main.now) (sym c.places-n.ensures) c.requires.room in
    record {
      long = c.split_at_mut-first.ensures.front_len;
      within = operand_within c.operands-p.result.0 (first_is_row op) (coded op).first c.args.row n (length c.args.main.now) c.operands-p.ensures.first c.requires.first room;
    }

pub copy_operand-requires-2-clause-within : goal.copy_operand-requires-2-clause-within
copy_operand-requires-2-clause-within g c =
    let n = c.places-n.result in
    let op = c.args.op in
    let long = length c.args.main.now in
    let room : c.args.row * n + n ≤ long = subst (λ (m : ℕ). c.args.row * m + m ≤ long) (sym c.places-n.ensures) c.requires.room in
    operand_within c.operands-p.result.1 (second_is_row op) (coded op).second c.args.row n long
    c.operands-p.ensures.second c.requires.second room

pub returns : goal.returns
returns g c =
    let holds = g.N.Set.ConditionSet.holds in
    let N : Net = g.N.Network.meaning c.args.net.now in
    let n = c.places-n.result in
    let op = c.args.op in
    let main = c.args.main.now in
    let part = c.work_row.new.part in
    let room : c.args.row * n + n ≤ length main = subst (λ (m : ℕ). c.args.row * m + m ≤ length main) (sym c.places-n.ensures) c.requires.room in
    let long : length part ≡ n = c.work_row.auto.part ∙ simp (length-take, length-drop) (omega arith) in
    let made = made_of holds N (covers holds part) c.work_row.result op _ (row_part n (coded op).first main) _ (row_part n (coded op).second main)
    (copied c.operands-p.result.0 (first_is_row op) (coded op).first n _ main c.operands-p.ensures.first c.copy_operand.ensures)
    (copied c.operands-p.result.1 (second_is_row op) (coded op).second n _ main c.operands-p.ensures.second c.copy_operand-2.ensures)
    (c.work_row.ensures.written, c.work_row.ensures.counted) in
    let d = subst (Done holds N op c.args.row main _ c.work_row.result) c.places-n.ensures
    (done holds N op c.args.row main part c.work_row.result n room long made) in
    record { few = c.work_row.ensures.few; before = d.before; behind = d.behind; written = d.made.0; counted = d.made.1 }

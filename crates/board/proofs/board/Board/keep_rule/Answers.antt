use Rattle.std.proofs.Common.{◌≡◌, ◌≤◌, List, [], ◌∷◌, ◌++◌, length, ap, ◌∙◌, arith}
use Rattle.tables.specs.declared.row.Row.{Row}
use Rattle.tables.proofs.Fits.{accepted_few}
use Rattle.board.specs.Possible.{all_accepted}
use Rattle.board.specs.Tables.{tables_of, rows_of}
use Rattle.board.proofs.Judging.{accepted_more, rows_of_more, on_ok}
use Rattle.board.proofs.board.Board.keep_rule.Goals as goal

pub invariant_of-self : goal.invariant_of-self
invariant_of-self g c =
    let K = c.args.self.now.front.conditions in
    let few : length c.args.table.now ≤ 32 = accepted_few K c.args.table.now c.requires.taken in
    let none = ap length c.new-rule.ensures in
    let rows : c.try_extend_from_slice.new.self.items ≡ c.new-rule.result.items ++ c.args.table.now =
    on_ok c.try_extend_from_slice.result _ (c.try_extend_from_slice.ensures.variant.1 (omega arith)) c.try_extend_from_slice.ensures.ok in
    let table : c.try_extend_from_slice.new.self.items ≡ c.args.table.now = rows ∙ ap (λ (front : List Row). front ++ c.args.table.now) c.new-rule.ensures in
    let tables : tables_of c.push.new.self ≡ tables_of c.args.self.now.rules ++ c.args.table.now ∷ [] =
    ap rows_of c.push.ensures.items ∙ rows_of_more c.args.self.now.rules.items c.try_extend_from_slice.new.self
    ∙ ap (λ (t : List Row). tables_of c.args.self.now.rules ++ t ∷ []) table in
    record {
      ends = c.args.self.now.ends;
      open_change = c.args.self.now.open_change;
      taken = ap (all_accepted K) tables ∙ accepted_more K (tables_of c.args.self.now.rules) c.args.table.now c.args.self.now.taken c.requires.taken;
    }

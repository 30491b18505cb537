use Rattle.std.proofs.Common.{◌≡◌, ℕ, ◌<◌, ◌≤◌, List, length, Some, refl, ap, sym, ◌∙◌, arith}
use Rattle.std.specs.List.{slice_get}
use Rattle.tables.specs.declared.row.Row.{Row}
use Rattle.arrayvec.specs.ArrayVec.{ArrayVec}
use Rattle.tables.proofs.Fits.{accepted_few}
use Rattle.board.specs.Tables.{rows_of, tables_of}
use Rattle.board.proofs.Judging.{table_at, accepted_each, largest_larger, largest_kept}
use Rattle.board.proofs.board.Board.check_admit.Goals as goal
use Rattle.board.proofs.board.Board.check_admit.Goals.{then-len-rows, else-len-rows}

pub loop-rule-preserved : goal.loop-rule-preserved
loop-rule-preserved g c =
    let b = c.args.self.now in
    let ts : List (List Row) = tables_of b.rules in
    let i : ℕ = c.loop-rule.rule-index in
    let t : List Row = c.rule-item.result.items in
    let at : slice_get (rows_of c.as_slice-rule-items.result.now) i ≡ Some t = table_at c.as_slice-rule-items.result.now i c.rule-item.result t c.loop-rule-test.true c.rule-item.is refl in
    let listed : slice_get ts i ≡ Some t = ap (λ (rs : List (ArrayVec Row)). slice_get (rows_of rs) i) (sym c.as_slice-rule-items.ensures.value) ∙ at in
    let few = accepted_few b.front.conditions t (accepted_each b.front.conditions ts i t b.taken listed) in
    let before = c.loop-rule.invariant.few in
    elim c.if-len-rows.branch [
      | then-len-rows w ↦
          let len = w.len-rows.ensures.value in
          let more : c.loop-rule.rows < length t = omega arith in
          let is : c.if-len-rows.rows ≡ length t = omega arith in
          record { largest = is ∙ largest_larger ts i c.loop-rule.rows t listed c.loop-rule.invariant.largest more; few = omega arith }
      | else-len-rows w ↦
          let less : length t ≤ c.loop-rule.rows = omega arith in
          let is : c.if-len-rows.rows ≡ c.loop-rule.rows = omega arith in
          record { largest = is ∙ largest_kept ts i c.loop-rule.rows t listed c.loop-rule.invariant.largest less; few = omega arith }
    ]

use Rattle.std.proofs.Common.{◌≡◌, ◌≤◌, take}
use Rattle.paper.specs.Refused.{most_rows}
use Rattle.board.specs.Tables.{tables_of}
use Rattle.board.proofs.board.Board.check_admit.Given as goal

-- The rows of the largest table so far.
abbrev pub invariant-loop-rule : goal.invariant-loop-rule
invariant-loop-rule g l = record {
  largest : l.rows ≡ most_rows (take l.rule-index (tables_of l.self.rules));
  few : l.rows ≤ 32;
}

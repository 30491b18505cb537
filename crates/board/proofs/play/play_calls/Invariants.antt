use Rattle.std.proofs.Common.{◌≡◌, take}
use Rattle.paper.specs.Does.{Run}
use Rattle.board.specs.Answers.{room_of}
use Rattle.board.specs.Boards.{opening_of, paper_of}
use Rattle.board.specs.Played.{calls_of, answers_of}
use Rattle.board.proofs.play.play_calls.Given as goal

-- The calls so far were played, on lists of the lengths that they had.
abbrev pub invariant-loop-call : goal.invariant-loop-call
invariant-loop-call g l = record {
  run :
      Run (opening_of l.fn.board) (paper_of l.fn.board) (calls_of (room_of l.fn.main l.fn.spare l.fn.steps) (take l.call-index l.calls))
      (answers_of l.answers.items) (paper_of l.board);
  opening : opening_of l.board ≡ opening_of l.fn.board;
  room : room_of l.main l.spare l.steps ≡ room_of l.fn.main l.fn.spare l.fn.steps;
}

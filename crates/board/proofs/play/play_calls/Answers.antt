use Rattle.std.proofs.Common.{get_or, ◌∙◌, subst}
use Rattle.paper.specs.declared.room.Room.{Room}
use Rattle.paper.specs.Does.{Does}
use Rattle.paper.specs.Paper.{Opening}
use Rattle.board.specs.declared.call.Call.{Call as PlayedCall}
use Rattle.board.specs.Answers.{room_of}
use Rattle.board.specs.Boards.{opening_of, paper_of}
use Rattle.board.specs.Played.{call_of, answer_of}
use Rattle.board.proofs.Playing.{same_room, run_next}
use Rattle.board.proofs.play.play_calls.Goals as goal

pub loop-call-preserved : goal.loop-call-preserved
loop-call-preserved g c =
    let before = c.loop-call.invariant in
    let o : Opening = opening_of c.args.board.now in
    let room : Room = room_of c.args.main.now c.args.spare.now c.args.steps.now in
    let call : PlayedCall = c.call-item.result in
    let here : Does o (paper_of c.loop-call.board) (call_of (room_of c.loop-call.main c.loop-call.spare c.loop-call.steps) call) (answer_of c.in_ok-answer.answer) (paper_of c.serve.new.board) =
    subst (λ (x : Opening). Does x (paper_of c.loop-call.board) (call_of (room_of c.loop-call.main c.loop-call.spare c.loop-call.steps) call) (answer_of c.in_ok-answer.answer) (paper_of c.serve.new.board))
    before.opening c.in_ok-answer.ensures.does in
    let with_room : Does o (paper_of c.loop-call.board) (call_of room call) (answer_of c.in_ok-answer.answer) (paper_of c.serve.new.board) =
    subst (λ (r : Room). Does o (paper_of c.loop-call.board) (call_of r call) (answer_of c.in_ok-answer.answer) (paper_of c.serve.new.board)) before.room here in
    let listed : Does o (paper_of c.loop-call.board) (call_of room (get_or c.args.calls.now c.loop-call.call-index call)) (answer_of c.in_ok-answer.answer) (paper_of c.serve.new.board) =
    subst (λ (k : PlayedCall). Does o (paper_of c.loop-call.board) (call_of room k) (answer_of c.in_ok-answer.answer) (paper_of c.serve.new.board)) c.call-item.is with_room in
    record {
      run =
          run_next o (paper_of c.args.board.now) room c.args.calls.now c.loop-call.call-index call c.loop-call.answers.items c.push.new.self.items c.in_ok-answer.answer
          (paper_of c.loop-call.board) (paper_of c.serve.new.board) c.loop-call-test.true before.run c.in_ok-push.ensures.items listed;
      opening = c.in_ok-answer.ensures.opening ∙ before.opening;
      room = same_room _ _ _ _ _ _ c.serve.auto.main c.serve.auto.spare c.serve.auto.steps ∙ before.room;
    }

use Rattle.std.proofs.Common.{◌≡◌, List, [], ap, ◌∙◌}
use Rattle.paper.specs.Calls.{Call, Answer}
use Rattle.paper.specs.Does.{Run}
use Rattle.paper.specs.History.{history, told_by}
use Rattle.paper.specs.Paper.{Opening, Paper, opened, standing}
use Rattle.paper.proofs.Histories.{run_law, run_told}
use Rattle.paper.proofs.Once.{run_once}
use Rattle.board.specs.Answers.{room_of}
use Rattle.board.specs.Boards.{paper_of}
use Rattle.board.specs.Played.{calls_of, answers_of, opening_with}
use Rattle.board.proofs.Playing.{from_opened, answered}
use Rattle.board.proofs.play.play.Goals as goal

pub returns-in_err-board-clause-answered : goal.returns-in_err-board-clause-answered
returns-in_err-board-clause-answered g c =
    let o : Opening = opening_with c.args.number c.args.marks.now (g.F.Network.meaning c.args.far) in
    let calls : List Call = calls_of (room_of c.args.main.now c.args.spare.now c.args.steps.now) c.args.calls.now in
    answered o (g.F.Network.fits c.args.far) calls

pub returns-in_err-board-clause-one : goal.returns-in_err-board-clause-one
returns-in_err-board-clause-one g c =
    let o : Opening = opening_with c.args.number c.args.marks.now (g.F.Network.meaning c.args.far) in
    let calls : List Call = calls_of (room_of c.args.main.now c.args.spare.now c.args.steps.now) c.args.calls.now in
    run_once o opened calls

pub returns-in_err-board-clause-every_run : goal.returns-in_err-board-clause-every_run
returns-in_err-board-clause-every_run g c =
    let o : Opening = opening_with c.args.number c.args.marks.now (g.F.Network.meaning c.args.far) in
    let calls : List Call = calls_of (room_of c.args.main.now c.args.spare.now c.args.steps.now) c.args.calls.now in
    run_law o calls

pub returns-in_err-answers-clause-answered : goal.returns-in_err-answers-clause-answered
returns-in_err-answers-clause-answered g c =
    let o : Opening = opening_with c.args.number c.args.marks.now (g.F.Network.meaning c.args.far) in
    let calls : List Call = calls_of (room_of c.args.main.now c.args.spare.now c.args.steps.now) c.args.calls.now in
    answered o (g.F.Network.fits c.args.far) calls

pub returns-in_err-answers-clause-one : goal.returns-in_err-answers-clause-one
returns-in_err-answers-clause-one g c =
    let o : Opening = opening_with c.args.number c.args.marks.now (g.F.Network.meaning c.args.far) in
    let calls : List Call = calls_of (room_of c.args.main.now c.args.spare.now c.args.steps.now) c.args.calls.now in
    run_once o opened calls

pub returns-in_err-answers-clause-every_run : goal.returns-in_err-answers-clause-every_run
returns-in_err-answers-clause-every_run g c =
    let o : Opening = opening_with c.args.number c.args.marks.now (g.F.Network.meaning c.args.far) in
    let calls : List Call = calls_of (room_of c.args.main.now c.args.spare.now c.args.steps.now) c.args.calls.now in
    run_law o calls

pub returns-clause-answered : goal.returns-clause-answered
returns-clause-answered g c =
    let o : Opening = opening_with c.args.number c.args.marks.now (g.F.Network.meaning c.args.far) in
    let calls : List Call = calls_of (room_of c.args.main.now c.args.spare.now c.args.steps.now) c.args.calls.now in
    answered o (g.F.Network.fits c.args.far) calls

pub returns-clause-one : goal.returns-clause-one
returns-clause-one g c =
    let o : Opening = opening_with c.args.number c.args.marks.now (g.F.Network.meaning c.args.far) in
    let calls : List Call = calls_of (room_of c.args.main.now c.args.spare.now c.args.steps.now) c.args.calls.now in
    run_once o opened calls

pub returns-clause-every_run : goal.returns-clause-every_run
returns-clause-every_run g c =
    let o : Opening = opening_with c.args.number c.args.marks.now (g.F.Network.meaning c.args.far) in
    let calls : List Call = calls_of (room_of c.args.main.now c.args.spare.now c.args.steps.now) c.args.calls.now in
    run_law o calls

pub returns-clause-told : goal.returns-clause-told
returns-clause-told g c =
    let o : Opening = opening_with c.args.number c.args.marks.now (g.F.Network.meaning c.args.far) in
    let calls : List Call = calls_of (room_of c.args.main.now c.args.spare.now c.args.steps.now) c.args.calls.now in
    let answers : List Answer = answers_of c.in_ok-answers.answers.items in
    let run : Run o opened calls answers (paper_of c.play_calls.new.board) =
    from_opened o _ _ _ calls answers c.in_ok-board.ensures.opening c.in_ok-board.ensures.opened c.in_ok-answers.ensures.run in
    run_told o calls answers _ run

pub returns-clause-stands : goal.returns-clause-stands
returns-clause-stands g c =
    let o : Opening = opening_with c.args.number c.args.marks.now (g.F.Network.meaning c.args.far) in
    let calls : List Call = calls_of (room_of c.args.main.now c.args.spare.now c.args.steps.now) c.args.calls.now in
    let answers : List Answer = answers_of c.in_ok-answers.answers.items in
    let run : Run o opened calls answers (paper_of c.play_calls.new.board) =
    from_opened o _ _ _ calls answers c.in_ok-board.ensures.opening c.in_ok-board.ensures.opened c.in_ok-answers.ensures.run in
    let told : paper_of c.play_calls.new.board ≡ told_by (history [] calls answers) = run_told o calls answers _ run in
    ap (λ (x : Opening). standing x (paper_of c.play_calls.new.board).own) (c.play_calls.ensures.opening ∙ c.in_ok-board.ensures.opening)
    ∙ ap (λ (p : Paper). standing o p.own) told

pub returns-clause-law : goal.returns-clause-law
returns-clause-law g c =
    let o : Opening = opening_with c.args.number c.args.marks.now (g.F.Network.meaning c.args.far) in
    let calls : List Call = calls_of (room_of c.args.main.now c.args.spare.now c.args.steps.now) c.args.calls.now in
    let answers : List Answer = answers_of c.in_ok-answers.answers.items in
    let run : Run o opened calls answers (paper_of c.play_calls.new.board) =
    from_opened o _ _ _ calls answers c.in_ok-board.ensures.opening c.in_ok-board.ensures.opened c.in_ok-answers.ensures.run in
    run_law o calls answers _ run

use Rattle.std.proofs.Common.{sym, ap, ◌∙◌}
use Rattle.rule_text.specs.Descent.{closing_until, next_number, push_rows, rows_kept}
use Rattle.rule_text.proofs.Emitted.{all_until}
use Rattle.rule_text.proofs.emit.close_until.Goals as goal

pub returns-in-Forall-clause-rows : goal.returns-in-Forall-clause-rows
returns-in-Forall-clause-rows c =
    all_until (rows_kept c.args.t.now) (rows_kept c.emit-not_p.new.t) (rows_kept c.emit-not_q.new.t) (rows_kept c.emit-neither.new.t)
    (rows_kept c.emit-until.new.t) (rows_kept c.emit-always.new.t) (rows_kept c.emit-either.new.t) (rows_kept c.emit-in-Forall.new.t)
    c.args.p c.args.q
    c.emit-not_p.result c.emit-not_q.result c.emit-neither.result c.emit-until.result c.emit-always.result c.emit-either.result
    c.emit-not_p.ensures.rows c.emit-not_p.ensures.last c.emit-not_q.ensures.rows c.emit-not_q.ensures.last
    c.emit-neither.ensures.rows c.emit-neither.ensures.last c.emit-until.ensures.rows c.emit-until.ensures.last
    c.emit-always.ensures.rows c.emit-always.ensures.last c.emit-either.ensures.rows c.emit-either.ensures.last
    c.emit-in-Forall.ensures.rows
    ∙ ap (λ k. push_rows (rows_kept c.args.t.now) (closing_until k c.args.p c.args.q (next_number (rows_kept c.args.t.now)))) (sym c.in-Forall.is)

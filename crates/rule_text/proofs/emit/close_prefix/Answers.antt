use Rattle.std.proofs.Common.{sym, ap, ◌∙◌}
use Rattle.tables.specs.declared.row.Operation.TheVariants.{Not, Next, Until, Always}
use Rattle.tables.specs.Tables.{coded}
use Rattle.rule_text.specs.Descent.{closing_rows, next_number, push_rows, rows_kept}
use Rattle.rule_text.proofs.Emitted.{all_prefix}
use Rattle.rule_text.proofs.emit.close_prefix.Goals as goal

pub returns-in-Ax-clause-rows : goal.returns-in-Ax-clause-rows
returns-in-Ax-clause-rows c =
    all_prefix (rows_kept c.args.t.now) (rows_kept c.emit-not_part.new.t) (rows_kept c.emit-next.new.t) (rows_kept c.emit-in-Ax.new.t)
    (coded (Not c.args.part)) (λ a. coded (Next a)) c.emit-not_part.result c.emit-next.result
    c.emit-not_part.ensures.rows c.emit-not_part.ensures.last c.emit-next.ensures.rows c.emit-next.ensures.last c.emit-in-Ax.ensures.rows
    ∙ ap (λ x. push_rows (rows_kept c.args.t.now) (closing_rows x c.args.first c.args.part (next_number (rows_kept c.args.t.now)))) (sym c.in-Ax.is)

pub returns-in-Af-clause-rows : goal.returns-in-Af-clause-rows
returns-in-Af-clause-rows c =
    all_prefix (rows_kept c.args.t.now) (rows_kept c.emit-not_part-in-Af.new.t) (rows_kept c.emit-always.new.t) (rows_kept c.emit-in-Af.new.t)
    (coded (Not c.args.part)) (λ a. coded (Always a)) c.emit-not_part-in-Af.result c.emit-always.result
    c.emit-not_part-in-Af.ensures.rows c.emit-not_part-in-Af.ensures.last c.emit-always.ensures.rows c.emit-always.ensures.last c.emit-in-Af.ensures.rows
    ∙ ap (λ x. push_rows (rows_kept c.args.t.now) (closing_rows x c.args.first c.args.part (next_number (rows_kept c.args.t.now)))) (sym c.in-Af.is)

pub returns-in-Ag-clause-rows : goal.returns-in-Ag-clause-rows
returns-in-Ag-clause-rows c =
    all_prefix (rows_kept c.args.t.now) (rows_kept c.emit-not_part-in-Ag.new.t) (rows_kept c.emit-until.new.t) (rows_kept c.emit-in-Ag.new.t)
    (coded (Not c.args.part)) (λ a. coded (Until c.args.first a)) c.emit-not_part-in-Ag.result c.emit-until.result
    c.emit-not_part-in-Ag.ensures.rows c.emit-not_part-in-Ag.ensures.last c.emit-until.ensures.rows c.emit-until.ensures.last c.emit-in-Ag.ensures.rows
    ∙ ap (λ x. push_rows (rows_kept c.args.t.now) (closing_rows x c.args.first c.args.part (next_number (rows_kept c.args.t.now)))) (sym c.in-Ag.is)

use Rattle.std.proofs.Common.{rules, ◌≡◌, ℕ, ◌*◌, ◌≤◌, true, length, sym, refl, ap, ◌∙◌, subst, inl, inr, arith}
use Rattle.std.proofs.lemmas.Bool.{true≢false}
use Rattle.std.proofs.lemmas.Result.{err_from_is_err_and}
use Rattle.routing.specs.Net.{Net, Pos, places}
use Rattle.routing.specs.Rules.{Means}
use Rattle.tables.specs.Tables.{coded, row_fits, rule_at}
use Rattle.tables.proofs.Fits.{accepted_row}
use Rattle.judging.specs.Steps.{as_pos}
use Rattle.judging.proofs.Asked.{asked}
use Rattle.judging.proofs.Operands.{part_before}
use Rattle.judging.proofs.RuleRows.{fits_first, fits_second}
use Rattle.judging.proofs.ShownRows.{row_shown}
use Rattle.judging.proofs.route.route.Goals as goal

pub show_row-requires-clause-first : goal.show_row-requires-clause-first
show_row-requires-clause-first g c =
    let N : Net = g.N.Network.meaning c.args.net.now in
    let rows = c.args.table.now in
    let row = c.args.row in
    let a = asked N rows row (as_pos c.args.at) (sym c.in_ok-op.ensures.refusal) in
    let fit : row_fits N.conditions row (coded c.in_ok-op.op) ≡ true = ap (row_fits N.conditions row) c.in_ok-op.ensures.row ∙ accepted_row N.conditions rows a.taken row a.row_in in
    fits_first N.conditions row c.in_ok-op.op fit

pub show_row-requires-clause-second : goal.show_row-requires-clause-second
show_row-requires-clause-second g c =
    let N : Net = g.N.Network.meaning c.args.net.now in
    let rows = c.args.table.now in
    let row = c.args.row in
    let a = asked N rows row (as_pos c.args.at) (sym c.in_ok-op.ensures.refusal) in
    let fit : row_fits N.conditions row (coded c.in_ok-op.op) ≡ true = ap (row_fits N.conditions row) c.in_ok-op.ensures.row ∙ accepted_row N.conditions rows a.taken row a.row_in in
    fits_second N.conditions row c.in_ok-op.op fit

pub holds_at-requires-clause-room : goal.holds_at-requires-clause-room
holds_at-requires-clause-room g c =
    let N : Net = g.N.Network.meaning c.args.net.now in
    let rows = c.args.table.now in
    let a = asked N rows c.args.row (as_pos c.args.at) (sym c.in_ok-op.ensures.refusal) in
    let fits : length rows * places N ≤ length c.args.main.now =
    subst (λ (n : ℕ). length rows * n ≤ length c.args.main.now) c.places-n.ensures c.if-main-table.false in
    let kept = c.judge_rows.auto.main in
    let p = part_before c.args.row (length rows) (places N) a.row_in in
    omega arith

pub holds_at-requires-clause-inside : goal.holds_at-requires-clause-inside
holds_at-requires-clause-inside g c =
    let N : Net = g.N.Network.meaning c.args.net.now in
    let a = asked N c.args.table.now c.args.row (as_pos c.args.at) (sym c.in_ok-op.ensures.refusal) in
    a.within.place_in

pub show_row-requires-clause-inside : goal.show_row-requires-clause-inside
show_row-requires-clause-inside g c =
    let N : Net = g.N.Network.meaning c.args.net.now in
    let a = asked N c.args.table.now c.args.row (as_pos c.args.at) (sym c.in_ok-op.ensures.refusal) in
    a.within

pub returns-in_err-op : goal.returns-in_err-op
returns-in_err-op g c =
    let p = err_from_is_err_and c.from_residual.result c.from_residual.ensures.1 in
    rw (p.1, p.2) (refl, inl (search rules, refl, refl))

pub returns-then-not-holds_at : goal.returns-then-not-holds_at
returns-then-not-holds_at g c =
    let N : Net = g.N.Network.meaning c.args.net.now in
    let row = c.args.row in
    let a = asked N c.args.table.now row (as_pos c.args.at) (sym c.in_ok-op.ensures.refusal) in
    let right = c.judge_rows.ensures.written row a.row_in (as_pos c.args.at) a.within in
    (refl, inr (search rules, refl, λ means. true≢false (sym (right.1 means) ∙ sym c.holds_at.ensures ∙ c.if-not-holds_at.true)))

pub show_row-requires-clause-room : goal.show_row-requires-clause-room
show_row-requires-clause-room g c =
    let N : Net = g.N.Network.meaning c.args.net.now in
    let rows = c.args.table.now in
    let a = asked N rows c.args.row (as_pos c.args.at) (sym c.in_ok-op.ensures.refusal) in
    let fits : length rows * places N ≤ length c.args.main.now =
    subst (λ (n : ℕ). length rows * n ≤ length c.args.main.now) c.places-n.ensures c.if-main-table.false in
    let kept = c.judge_rows.auto.main in
    let p = part_before c.args.row (length rows) (places N) a.row_in in
    omega arith

pub returns : goal.returns
returns g c =
    let holds = g.N.Set.ConditionSet.holds in
    let N : Net = g.N.Network.meaning c.args.net.now in
    let rows = c.args.table.now in
    let row = c.args.row in
    let x : Pos = as_pos c.args.at in
    let a = asked N rows row x (sym c.in_ok-op.ensures.refusal) in
    let judged = c.judge_rows.ensures.written in
    let true_here : Means N (rule_at rows row) x = (judged row a.row_in x a.within).0 (sym c.holds_at.ensures ∙ c.if-not-holds_at.false) in (
      search rules,
      row_shown holds N (g.N.Network.fits c.args.net.now) rows row x c.in_ok-op.op c.judge_rows.new.main a.taken a.row_in c.in_ok-op.ensures.row a.operation a.within judged
          true_here c.args.steps.now c.show_row.new.steps c.show_row.result c.show_row.ensures,
    )

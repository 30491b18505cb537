use Rattle.std.proofs.Common.{rules, ℕ, ◌*◌, ◌≤◌, length, sym, refl, ap, ◌∙◌, subst, arith}
use Rattle.std.proofs.lemmas.Bool.{true≢false}
use Rattle.routing.specs.Net.{Net, Pos, places}
use Rattle.routing.specs.Rules.{Means}
use Rattle.tables.specs.Tables.{row_fits, rule_at}
use Rattle.tables.proofs.Fits.{accepted_row}
use Rattle.judging.specs.Breaking.{breaking_form, last_row, table_rule}
use Rattle.judging.specs.Chosen.{chosen}
use Rattle.judging.specs.Steps.{as_pos}
use Rattle.judging.proofs.Breakings.{last_in, rule_asked, why_in, why_shown}
use Rattle.judging.proofs.Exhibiting.{exhibits}
use Rattle.judging.proofs.Operands.{part_before}
use Rattle.judging.proofs.RuleRows.{fits_first, fits_second}
use Rattle.judging.proofs.ShownRows.{row_shown}
use Rattle.judging.proofs.breaking.show_breaking.Goals as goal

pub show_row-shown-requires-clause-first : goal.show_row-shown-requires-clause-first
show_row-shown-requires-clause-first g c =
    let N : Net = g.N.Network.meaning c.args.net.now in
    let rows = c.args.table.now in
    let row : ℕ = c.in-Some.row in
    let a = rule_asked N rows (as_pos c.args.at) (sym c.in_ok-check_rule.ensures) in
    let inside = why_in N rows a.0 (as_pos c.args.at) (breaking_form rows) refl row c.in-Some.ensures.0 in
    fits_first N.conditions row c.in-Some.op (ap (row_fits N.conditions row) c.in-Some.ensures.1 ∙ accepted_row N.conditions rows a.0 row inside)

pub show_row-shown-requires-clause-second : goal.show_row-shown-requires-clause-second
show_row-shown-requires-clause-second g c =
    let N : Net = g.N.Network.meaning c.args.net.now in
    let rows = c.args.table.now in
    let row : ℕ = c.in-Some.row in
    let a = rule_asked N rows (as_pos c.args.at) (sym c.in_ok-check_rule.ensures) in
    let inside = why_in N rows a.0 (as_pos c.args.at) (breaking_form rows) refl row c.in-Some.ensures.0 in
    fits_second N.conditions row c.in-Some.op (ap (row_fits N.conditions row) c.in-Some.ensures.1 ∙ accepted_row N.conditions rows a.0 row inside)

pub show_row-shown-requires-clause-room : goal.show_row-shown-requires-clause-room
show_row-shown-requires-clause-room g c =
    let N : Net = g.N.Network.meaning c.args.net.now in
    let rows = c.args.table.now in
    let row : ℕ = c.in-Some.row in
    let a = rule_asked N rows (as_pos c.args.at) (sym c.in_ok-check_rule.ensures) in
    let inside = why_in N rows a.0 (as_pos c.args.at) (breaking_form rows) refl row c.in-Some.ensures.0 in
    let fits : length rows * places N ≤ length c.args.main.now =
    subst (λ (n : ℕ). length rows * n ≤ length c.args.main.now) c.places-n.ensures c.if-main-table.false in
    let kept = c.judge_rows.auto.main in
    let p = part_before row (length rows) (places N) inside in
    omega arith

pub returns : goal.returns
returns g c =
    let N : Net = g.N.Network.meaning c.args.net.now in
    let rows = c.args.table.now in
    let row : ℕ = c.in-Some.row in
    let x : Pos = as_pos c.args.at in
    let a = rule_asked N rows x (sym c.in_ok-check_rule.ensures) in
    let judged = c.judge_rows.ensures.written in
    let breaks : Means N (table_rule rows) x → ⊥ =
    λ (m : Means N (table_rule rows) x). true≢false (sym ((judged (last_row rows) (last_in N rows a.0) x a.1).1 m) ∙ (sym c.holds_at.ensures ∙ c.if-holds_at.false)) in
    let can = why_shown N rows a.0 x a.1 breaks (breaking_form rows) refl row c.in-Some.ensures.0 in
    let shown =
    row_shown g.N.Set.ConditionSet.holds N (g.N.Network.fits c.args.net.now) rows row x c.in-Some.op c.judge_rows.new.main a.0 can.row_in c.in-Some.ensures.1 can.six a.1 judged can.true_here
    c.args.steps.now c.show_row-shown.new.steps c.show_row-shown.result c.show_row-shown.ensures in (
      search rules,
      breaks,
      (
        c.in-Some.ensures.0,
        shown,
        exhibits N (rule_at rows row) x a.1 (chosen N (rule_at rows row) x).positions c.show_row-shown.result.ending shown.trail shown.shows,
      ),
    )

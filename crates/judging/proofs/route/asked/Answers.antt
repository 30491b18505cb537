use Rattle.std.proofs.Common.{rules, ◌≡◌, ℕ, ◌<◌, true, false, leb, ◌&&◌, length, get_or, sym, refl, ap, ◌∙◌}
use Rattle.std.proofs.lemmas.Bool.{true≢false, ltb-true}
use Rattle.std.proofs.lemmas.Option.{MatchOption-at_none, get_or_from_slice_get, slice_get_read}
use Rattle.routing.specs.Net.{Net}
use Rattle.tables.specs.declared.row.Row.{Row}
use Rattle.tables.specs.Tables.{accepted, coded, row_fits, no_row}
use Rattle.tables.proofs.Fits.{accepted_row}
use Rattle.judging.proofs.route.asked.Goals as goal

-- Each row of an accepted table fits.
pub returns-in_default-read_row-2-clause-refusal : goal.returns-in_default-read_row-2-clause-refusal
returns-in_default-read_row-2-clause-refusal g c =
    let N : Net = g.N.Network.meaning c.args.net.now in
    let over = g.met.N.Network.over c.args.net.now ∙ sym c.conditions-conditions.ensures in
    let rows = c.args.table.now in
    let row = c.args.row in
    let taken : accepted N.conditions rows ≡ true = search rules in
    let inside : row < length rows = ltb-true row (length rows) (sym c.in-Some.ensures.lookup.0) in
    let fits : row_fits N.conditions row (get_or rows row no_row) ≡ true = accepted_row N.conditions rows taken row inside in
    let fails : row_fits c.conditions-conditions.result row c.in-Some.found.now ≡ false = MatchOption-at_none _ _ c.in_default-read_row.is c.read_row.ensures in
    let is : get_or rows row no_row ≡ c.in-Some.found.now = get_or_from_slice_get rows row c.in-Some.found.now no_row (slice_get_read rows (length rows) row _ refl inside c.in-Some.ensures.lookup.1) in
    absurd (true≢false (sym fits ∙ ap (λ (k : ℕ). row_fits k row (get_or rows row no_row)) over ∙ ap (row_fits c.conditions-conditions.result row) is ∙ fails))

pub returns-in-Some-Next-clause-refusal : goal.returns-in-Some-Next-clause-refusal
returns-in-Some-Next-clause-refusal g c =
    let rows = c.args.table.now in
    let row = c.args.row in
    let op = c.in-Some-Next.op in
    let found = c.in-Some.found.now in
    let inside : row < length rows = ltb-true row (length rows) (sym c.in-Some.ensures.lookup.0) in
    let is : get_or rows row no_row ≡ found =
    get_or_from_slice_get rows row found no_row (slice_get_read rows (length rows) row _ refl inside c.in-Some.ensures.lookup.1) in
    let shown : (leb 6 (coded op).operation && leb (coded op).operation 8) ≡ true = search rules in
    let asked : (leb 6 (get_or rows row no_row).operation && leb (get_or rows row no_row).operation 8) ≡ true =
    ap (λ (w : Row). leb 6 w.operation && leb w.operation 8) (is ∙ sym c.in-Some-Next.ensures.1) ∙ shown in
    search rules

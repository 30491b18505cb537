use Rattle.std.proofs.Common.{◌≡◌, ℕ, true, false, get_or, sym, refl, ap, ◌∙◌}
use Rattle.std.proofs.lemmas.Bool.{true≢false}
use Rattle.std.proofs.lemmas.Option.{MatchOption-at_none, MatchOption-at_some}
use Rattle.routing.specs.Net.{Net}
use Rattle.tables.specs.Tables.{no_row, row_fits}
use Rattle.tables.proofs.Fits.{accepted_row}
use Rattle.judging.specs.Breaking.{breaking_form}
use Rattle.judging.specs.Steps.{as_pos}
use Rattle.judging.proofs.Breakings.{why_in}
use Rattle.judging.proofs.breaking.breaking_row.Goals as goal

-- Each row of an accepted table fits.
pub returns-in_err-op : goal.returns-in_err-op
returns-in_err-op g c =
    let N : Net = g.N.Network.meaning c.args.net.now in
    let over = g.met.N.Network.over c.args.net.now ∙ sym c.conditions.ensures in
    let rows = c.args.table.now in
    let row : ℕ = c.in_ok-row.row in
    let why = MatchOption-at_some _ _ row c.in_ok-row.was c.row_to_show.ensures in
    let inside = why_in N rows c.requires.taken (as_pos c.args.at) (breaking_form rows) refl row why in
    let fits : row_fits N.conditions row (get_or rows row no_row) ≡ true = accepted_row N.conditions rows c.requires.taken row inside in
    let fails : row_fits c.conditions.result row c.row_at.result ≡ false = MatchOption-at_none _ _ c.in_err-op.was c.read_row.ensures in
    absurd (true≢false (sym fits ∙ (ap (λ (k : ℕ). row_fits k row (get_or rows row no_row)) over ∙ (ap (row_fits c.conditions.result row) (sym c.row_at.ensures) ∙ fails))))

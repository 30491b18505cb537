use Rattle.std.proofs.Common.{rules, ◌≡◌, ℕ, ◌+◌, ◌<◌, ◌≤◌, true, false, ltb, leb, List, length, get_or, is_some, Some, None, Option, sym, ap, ◌∙◌, arith, below_more, MatchOption}
use Rattle.std.proofs.lemmas.Bool.{and_from, and_right, lt-ltb, le-leb, true≢false, false≢true}
use Rattle.tables.specs.declared.row.Row.{Row}
use Rattle.tables.specs.declared.row.Operation.{Operation}
use Rattle.tables.specs.Tables.{row_fits, accepted, coded, no_row}
use Rattle.tables.proofs.Fits.{all_fit, one_fails}
use Rattle.tables.proofs.table.is_accepted.Goals as goal

-- What reading a row says of whether it fits.
abbrev Reading : ℕ → ℕ → Row → Option Operation → Type 0
Reading K i w r = MatchOption r (row_fits K i w ≡ false) (λ op. (row_fits K i w ≡ true) × (coded op ≡ w))

read_no : (K i : ℕ) (w : Row) (r : Option Operation) → Reading K i w r → is_some r ≡ false → row_fits K i w ≡ false
read_no K i w None h e = h
read_no K i w (Some op) h e = absurd (true≢false e)

read_yes : (K i : ℕ) (w : Row) (r : Option Operation) → Reading K i w r → is_some r ≡ true → row_fits K i w ≡ true
read_yes K i w None h e = absurd (false≢true e)
read_yes K i w (Some op) h e = h.0

refused : (K i : ℕ) (rows : List Row) → i < length rows → row_fits K i (get_or rows i no_row) ≡ false → accepted K rows ≡ false
refused K i rows l h =
    let e : i ≡ 0 + i = omega arith in
    and_right (ltb 0 (length rows)) _ (and_right (leb (length rows) 32) _ (one_fails K 0 rows i l (ap (λ j. row_fits K j (get_or rows i no_row)) (sym e) ∙ h)))

taken_in : (K : ℕ) (rows : List Row) → 0 < length rows → length rows ≤ 32 → ((i : ℕ) → i < length rows → row_fits K i (get_or rows i no_row) ≡ true) → accepted K rows ≡ true
taken_in K rows some few fit =
    and_from (ltb 0 (length rows)) _ (lt-ltb 0 (length rows) some)
    (and_from (leb (length rows) 32) _ (le-leb (length rows) 32 few)
    (all_fit K 0 rows (λ i l. let e : 0 + i ≡ i = omega arith in ap (λ j. row_fits K j (get_or rows i no_row)) e ∙ fit i l)))

pub returns-then-is_none : goal.returns-then-is_none
returns-then-is_none c =
    sym (refused c.args.conditions c.loop-i.i c.args.table.now c.loop-i-test.true
    (read_no c.args.conditions c.loop-i.i (get_or c.args.table.now c.loop-i.i no_row) c.read_row.result c.read_row.ensures c.if-is_none.ensures))

pub loop-i-preserved : goal.loop-i-preserved
loop-i-preserved c =
    below_more _ _ c.loop-i.invariant (read_yes c.args.conditions c.loop-i.i (get_or c.args.table.now c.loop-i.i no_row) c.read_row.result c.read_row.ensures c.if-is_none.ensures)

pub returns : goal.returns
returns c =
    sym (taken_in c.args.conditions c.args.table.now (search rules) c.if-table-gt-MOST_ROWS.false (λ i l. c.loop-i.invariant i (omega arith)))

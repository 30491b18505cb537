-- The test of a table, row by row.
use Rattle.std.proofs.Common.{◌≡◌, ℕ, zero, suc, ◌+◌, ◌<◌, ◌≤◌, true, false, ltb, leb, List, [], ◌∷◌, length, get_or, sym, refl, ap, ◌∙◌, arith}
use Rattle.std.proofs.lemmas.Bool.{and_parts, and_from, and_left, and_right, ltb-true, leb-true}
use Rattle.tables.specs.declared.row.Row.{Row}
use Rattle.tables.specs.Tables.{row_fits, rows_fit, accepted, no_row}

module _ (K : ℕ) where
  -- Every row fits, and so the rows fit.
  pub all_fit : (at : ℕ) (rows : List Row) → ((i : ℕ) → i < length rows → row_fits K (at + i) (get_or rows i no_row) ≡ true) → rows_fit K at rows ≡ true
  all_fit at [] h = refl
  all_fit at (w ∷ ws) h =
      let e : at + 0 ≡ at = omega arith in
      and_from (row_fits K at w) (rows_fit K (suc at) ws)
      (ap (λ j. row_fits K j w) (sym e) ∙ h 0 (omega arith))
      (all_fit (suc at) ws (λ i l. let f : suc at + i ≡ at + suc i = omega arith in ap (λ j. row_fits K j (get_or ws i no_row)) f ∙ h (suc i) (omega arith)))

  -- A row that does not fit.
  pub one_fails : (at : ℕ) (rows : List Row) (i : ℕ) → i < length rows → row_fits K (at + i) (get_or rows i no_row) ≡ false → rows_fit K at rows ≡ false
  one_fails at [] i l h = absurd (omega arith)
  one_fails at (w ∷ ws) zero l h =
      let e : at ≡ at + 0 = omega arith in and_left (row_fits K at w) (rows_fit K (suc at) ws) (ap (λ j. row_fits K j w) e ∙ h)
  one_fails at (w ∷ ws) (suc i) l h =
      let f : suc at + i ≡ at + suc i = omega arith in
      and_right (row_fits K at w) (rows_fit K (suc at) ws) (one_fails (suc at) ws i (omega arith) (ap (λ j. row_fits K j (get_or ws i no_row)) f ∙ h))

  -- Each row of rows that fit.
  pub each_fits : (at : ℕ) (rows : List Row) → rows_fit K at rows ≡ true → (i : ℕ) → i < length rows → row_fits K (at + i) (get_or rows i no_row) ≡ true
  each_fits at [] h i l = absurd (omega arith)
  each_fits at (w ∷ ws) h zero l =
      let e : at + 0 ≡ at = omega arith in ap (λ j. row_fits K j w) e ∙ (and_parts (row_fits K at w) (rows_fit K (suc at) ws) h).0
  each_fits at (w ∷ ws) h (suc i) l =
      let f : at + suc i ≡ suc at + i = omega arith in
      ap (λ j. row_fits K j (get_or ws i no_row)) f ∙ each_fits (suc at) ws (and_parts (row_fits K at w) (rows_fit K (suc at) ws) h).1 i (omega arith)

  -- What acceptance says of a table.
  pub accepted_some : (rows : List Row) → accepted K rows ≡ true → 0 < length rows
  accepted_some rows h = ltb-true 0 (length rows) (and_parts (ltb 0 (length rows)) _ h).0

  pub accepted_few : (rows : List Row) → accepted K rows ≡ true → length rows ≤ 32
  accepted_few rows h =
      leb-true (length rows) 32 (and_parts (leb (length rows) 32) (rows_fit K 0 rows) (and_parts (ltb 0 (length rows)) _ h).1).0

  pub accepted_row : (rows : List Row) → accepted K rows ≡ true → (i : ℕ) → i < length rows → row_fits K i (get_or rows i no_row) ≡ true
  accepted_row rows h i l =
      let e : i ≡ 0 + i = omega arith in
      ap (λ j. row_fits K j (get_or rows i no_row)) e
      ∙ each_fits 0 rows (and_parts (leb (length rows) 32) (rows_fit K 0 rows) (and_parts (ltb 0 (length rows)) _ h).1).1 i l

-- The form of a table, and that the row it names can be shown where the table's rule breaks.
use Rattle.std.proofs.Common.{◌≡◌, ℕ, ◌<◌, ◌≤◌, Bool, true, false, cond, leb, eqb, ltb, ◌&&◌, ◌⊎◌, List, length, get_or, None, sym, refl, ap, ◌∙◌, subst, inl, inr, arith}
use Rattle.std.proofs.lemmas.Bool.{and_parts, ltb-true, leb-true, eqb-true}
use Rattle.routing.specs.declared.refusal.Refusal.TheVariants.{BadTable, BadQuery}
use Rattle.routing.specs.Net.{Net, Pos, Within, places, settings}
use Rattle.routing.specs.Rules.{Rule, non, either, Means}
use Rattle.rounds.proofs.Tests.{told}
use Rattle.rounds.proofs.Decide.{true_at_decides}
use Rattle.tables.specs.declared.row.Row.{Row}
use Rattle.tables.specs.declared.row.Operation.TheVariants.{Not, Or}
use Rattle.tables.specs.Tables.{accepted, coded, operand_tests, row_fits, rule_at}
use Rattle.tables.proofs.Fits.{accepted_row, accepted_some}
use Rattle.judging.specs.declared.breaking.BreakingForm.{BreakingForm}
use Rattle.judging.specs.declared.breaking.BreakingForm.TheVariants.{One, Either, Other}
use Rattle.judging.specs.Breaking.{breaking_form, last_row, row_of, rule_refusal, ShowsWhy, table_rule}
use Rattle.judging.proofs.Asked.{two_tests}
use Rattle.judging.proofs.RuleRows.{rule_at_row}

-- What three tests make of a form.
one_by : (a b c : Bool) (v u w p : ℕ) → cond a (cond b (One v) (cond c (Either u w) Other)) Other ≡ One p → (a ≡ true) × (b ≡ true) × (v ≡ p)
one_by true true c v u w p e = (refl, refl, cc)
one_by true false true v u w p e = let z : ◌≡◌ {A = ℕ} 0 1 = cc in absurd (omega arith)
one_by true false false v u w p e = let z : ◌≡◌ {A = ℕ} 0 1 = cc in absurd (omega arith)
one_by false b c v u w p e = let z : ◌≡◌ {A = ℕ} 0 1 = cc in absurd (omega arith)

either_by : (a b c : Bool) (v u w q r : ℕ) → cond a (cond b (One v) (cond c (Either u w) Other)) Other ≡ Either q r
    → (a ≡ true) × (c ≡ true) × (u ≡ q) × (w ≡ r)
either_by true true c v u w q r e = let z : ◌≡◌ {A = ℕ} 0 1 = cc in absurd (omega arith)
either_by true false true v u w q r e = (refl, refl, cc, cc)
either_by true false false v u w q r e = let z : ◌≡◌ {A = ℕ} 0 1 = cc in absurd (omega arith)
either_by false b c v u w q r e = let z : ◌≡◌ {A = ℕ} 0 1 = cc in absurd (omega arith)

-- A row that fits and has operation 3 or 5 is "not", or "or", of earlier rows.
not_row : (K i : ℕ) (w : Row) → row_fits K i w ≡ true → w.operation ≡ 3 → (coded (Not w.first) ≡ w) × (w.first < i)
not_row K i w fits e = (whole, ltb-true w.first i (and_parts (ltb w.first i) _ tests).0)
  where
    tests : (ltb w.first i && eqb w.second 0) ≡ true
    tests = subst (λ (n : ℕ). get_or (operand_tests K i w.first w.second) n false ≡ true) e fits

    whole : coded (Not w.first) ≡ w
    whole =
        let z : w.second ≡ 0 = eqb-true w.second 0 (and_parts (ltb w.first i) _ tests).1 in
        let row : ℕ → ℕ → Row = λ o s. record { operation = o; first = w.first; second = s } in
        ap (λ (o : ℕ). row o 0) (sym e) ∙ ap (row w.operation) (sym z)

or_row : (K i : ℕ) (w : Row) → row_fits K i w ≡ true → w.operation ≡ 5 → (coded (Or w.first w.second) ≡ w) × (w.first < i) × (w.second < i)
or_row K i w fits e =
    let t : (ltb w.first i && ltb w.second i) ≡ true = subst (λ (n : ℕ). get_or (operand_tests K i w.first w.second) n false ≡ true) e fits in
    let row : ℕ → Row = λ o. record { operation = o; first = w.first; second = w.second } in
    (ap row (sym e), ltb-true w.first i (and_parts (ltb w.first i) _ t).0, ltb-true w.second i (and_parts (ltb w.first i) _ t).1)

-- What a question that is not refused says.
pub rule_asked : (N : Net) (rows : List Row) (x : Pos) → rule_refusal N rows x ≡ None → (accepted N.conditions rows ≡ true) × Within N x
rule_asked N rows x e =
    let t = two_tests BadTable BadQuery (accepted N.conditions rows) (ltb x.place (places N) && ltb x.setting (settings N)) e in
    let p = and_parts (ltb x.place (places N)) _ t.1 in
    (t.0, record { place_in = ltb-true x.place (places N) p.0; setting_in = ltb-true x.setting (settings N) p.1 })

-- A row that a route can show, where its rule is true at x.
pub record Showable (N : Net) (rows : List Row) (x : Pos) (r : ℕ) : Type 0 where
  pub row_in : r < length rows
  pub six : 6 ≤ (row_of rows r).operation
  pub true_here : Means N (rule_at rows r) x

module _ (N : Net) (rows : List Row) (taken : accepted N.conditions rows ≡ true) where
  pub last_in : last_row rows < length rows
  last_in = let s = accepted_some N.conditions rows taken in omega arith

  -- The rule of a table whose last row is "not p".
  negated : (row_of rows (last_row rows)).operation ≡ 3
      → ((row_of rows (last_row rows)).first < length rows) × (table_rule rows ≡ non (rule_at rows (row_of rows (last_row rows)).first))
  negated e =
      let fits = accepted_row N.conditions rows taken (last_row rows) last_in in
      let v = not_row N.conditions (last_row rows) (row_of rows (last_row rows)) fits e in
      let l = last_in in
      (omega (arith, v.1), rule_at_row N.conditions rows (last_row rows) (Not (row_of rows (last_row rows)).first) v.0 fits)

  -- The rule of a row "q or r".
  joined : (p : ℕ) → p < length rows → (row_of rows p).operation ≡ 5
      → ((row_of rows p).first < length rows) × ((row_of rows p).second < length rows) × (rule_at rows p ≡ either (rule_at rows (row_of rows p).first) (rule_at rows (row_of rows p).second))
  joined p l e =
      let fits = accepted_row N.conditions rows taken p l in
      let v = or_row N.conditions p (row_of rows p) fits e in
      (omega (arith, v.1), omega (arith, v.2), rule_at_row N.conditions rows p (Or (row_of rows p).first (row_of rows p).second) v.0 fits)

  -- The rows of a form, and what the table's rule is.
  one_rows : (p : ℕ) → breaking_form rows ≡ One p → (p < length rows) × (6 ≤ (row_of rows p).operation) × (table_rule rows ≡ non (rule_at rows p))
  one_rows p e =
      let v = one_by _ _ _ _ _ _ p e in
      let n = negated (eqb-true _ 3 v.0) in
      let six = leb-true 6 _ (and_parts (leb 6 (row_of rows (row_of rows (last_row rows)).first).operation) _ v.1).0 in
      subst (λ (k : ℕ). (k < length rows) × (6 ≤ (row_of rows k).operation) × (table_rule rows ≡ non (rule_at rows k))) v.2 (n.0, six, n.1)

  abbrev EitherRows : ℕ → ℕ → Type 0
  EitherRows q r =
      (q < length rows) × (r < length rows) × (6 ≤ (row_of rows q).operation) × (6 ≤ (row_of rows r).operation) × (table_rule rows ≡ non (either (rule_at rows q) (rule_at rows r)))

  either_rows : (q r : ℕ) → breaking_form rows ≡ Either q r → EitherRows q r
  either_rows q r e =
      let p : ℕ = (row_of rows (last_row rows)).first in
      let v = either_by _ _ _ _ _ _ q r e in
      let n = negated (eqb-true _ 3 v.0) in
      let o = and_parts (eqb (row_of rows p).operation 5) _ v.1 in
      let u = and_parts (eqb (row_of rows (row_of rows p).first).operation 7) _ o.1 in
      let j = joined p n.0 (eqb-true _ 5 o.0) in
      let seven : (row_of rows (row_of rows p).first).operation ≡ 7 = eqb-true _ 7 u.0 in
      let eight : (row_of rows (row_of rows p).second).operation ≡ 8 = eqb-true _ 8 u.1 in
      subst (λ (k : ℕ). EitherRows q k) v.3
      (subst (λ (k : ℕ). EitherRows k (row_of rows p).second) v.2 (j.0, j.1, omega arith, omega arith, n.1 ∙ ap non j.2))

  -- The row that shows why the rule breaks is one of the table.
  pub why_in : (x : Pos) (form : BreakingForm) → breaking_form rows ≡ form → (r : ℕ) → ShowsWhy N rows x form r → r < length rows
  why_in x (One p) e r s = subst (λ (k : ℕ). k < length rows) (sym s) (one_rows p e).0
  why_in x (Either p q) e r (inl (s, m)) = subst (λ (k : ℕ). k < length rows) (sym s) (either_rows p q e).0
  why_in x (Either p q) e r (inr (s, n)) = subst (λ (k : ℕ). k < length rows) (sym s) (either_rows p q e).1
  why_in x Other e r s = absurd s

  -- The first row of two.
  pub first_in : (q r : ℕ) → breaking_form rows ≡ Either q r → q < length rows
  first_in q r e = (either_rows q r e).0

  module _ (x : Pos) (w : Within N x) (breaks : Means N (table_rule rows) x → ⊥) where
    -- A rule is true where its "not" is the table's.
    breaks_not : (f : Rule) → table_rule rows ≡ non f → Means N f x
    breaks_not f e = go (told _ (true_at_decides N f x w))
      where
        go : Means N f x ⊎ (Means N f x → ⊥) → Means N f x
        go (inl m) = m
        go (inr n) = absurd (breaks (subst (λ (k : Rule). Means N k x) (sym e) n))

    other_true : (q r : ℕ) → breaking_form rows ≡ Either q r → (Means N (rule_at rows q) x → ⊥) → Means N (rule_at rows r) x
    other_true q r e n = go (breaks_not (either (rule_at rows q) (rule_at rows r)) (either_rows q r e).4)
      where
        go : Means N (rule_at rows q) x ⊎ Means N (rule_at rows r) x → Means N (rule_at rows r) x
        go (inl m) = absurd (n m)
        go (inr m) = m

    -- It can be shown.
    pub why_shown : (form : BreakingForm) → breaking_form rows ≡ form → (r : ℕ) → ShowsWhy N rows x form r → Showable N rows x r
    why_shown (One p) e r s =
        let v = one_rows p e in
        subst (Showable N rows x) (sym s) (record { row_in = v.0; six = v.1; true_here = breaks_not _ v.2 })
    why_shown (Either p q) e r (inl (s, m)) =
        let v = either_rows p q e in
        subst (Showable N rows x) (sym s) (record { row_in = v.0; six = v.2; true_here = m })
    why_shown (Either p q) e r (inr (s, n)) =
        let v = either_rows p q e in
        subst (Showable N rows x) (sym s) (record { row_in = v.1; six = v.3; true_here = other_true p q e n })
    why_shown Other e r s = absurd s

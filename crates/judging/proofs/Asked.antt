-- What a question that is not refused says.
use Rattle.std.proofs.Common.{◌≡◌, ℕ, ◌<◌, ◌≤◌, Bool, true, false, cond, ◌&&◌, ltb, leb, List, length, get_or, Some, None, sym, refl, arith}
use Rattle.std.proofs.lemmas.Option.{none-some}
use Rattle.std.proofs.lemmas.Bool.{and_parts, ltb-true, leb-true}
use Rattle.routing.specs.declared.refusal.Refusal.TheVariants.{BadTable, BadQuery}
use Rattle.routing.specs.Net.{Net, Pos, Within, places, settings}
use Rattle.routing.specs.Rules.{Rule}
use Rattle.tables.specs.declared.row.Row.{Row}
use Rattle.tables.specs.declared.row.Operation.{Operation}
use Rattle.tables.specs.declared.row.Operation.TheVariants.{Yes, Mark, Condition, Not, And, Or, Next, Until, Always}
use Rattle.tables.specs.Tables.{accepted, coded, no_row}
use Rattle.judging.specs.Queries.{query_fits, query_refusal}
use Rattle.judging.specs.Shown.{CanShow}
use Rattle.judging.proofs.RuleRows.{operation_rule}

-- Two tests that refuse nothing both pass.
pub two_tests : {E : Type 0} (first second : E) (t u : Bool) → cond t (cond u None (Some second)) (Some first) ≡ None → (t ≡ true) × (u ≡ true)
two_tests first second true true e = (refl, refl)
two_tests first second true false e = absurd (none-some second (sym e))
two_tests first second false u e = absurd (none-some first (sym e))

pub record Asked (N : Net) (rows : List Row) (r : ℕ) (x : Pos) : Type 0 where
  pub taken : accepted N.conditions rows ≡ true
  pub row_in : r < length rows
  pub operation : 6 ≤ (get_or rows r no_row).operation
  pub within : Within N x

pub asked : (N : Net) (rows : List Row) (r : ℕ) (x : Pos) → query_refusal N rows r x ≡ None → Asked N rows r x
asked N rows r x e =
    let t = two_tests BadTable BadQuery (accepted N.conditions rows) (query_fits N rows r x) e in
    let q = and_parts (ltb r (length rows)) _ t.1 in
    let o = and_parts (leb 6 (get_or rows r no_row).operation && leb (get_or rows r no_row).operation 8) _ q.1 in
    let six = and_parts (leb 6 (get_or rows r no_row).operation) _ o.0 in
    let p = and_parts (ltb x.place (places N)) _ o.1 in
    record {
      taken = t.0;
      row_in = ltb-true r (length rows) q.0;
      operation = leb-true 6 _ six.0;
      within = record { place_in = ltb-true x.place (places N) p.0; setting_in = ltb-true x.setting (settings N) p.1 };
    }

-- Rows of operation 6 and on can be shown.
pub can_show : (op : Operation) (f h : Rule) → 6 ≤ (coded op).operation → CanShow (operation_rule op f h)
can_show (Next i) f h l = tt
can_show (Until i j) f h l = tt
can_show (Always i) f h l = tt
can_show Yes f h l = absurd (omega arith)
can_show (Mark k) f h l = absurd (omega arith)
can_show (Condition k) f h l = absurd (omega arith)
can_show (Not i) f h l = absurd (omega arith)
can_show (And i j) f h l = absurd (omega arith)
can_show (Or i j) f h l = absurd (omega arith)

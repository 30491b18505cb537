-- What a call that asks for a route answers, and what the lists then hold.
use Rattle.std.specs.Prelude.{◌≡◌, ℕ, ◌⊎◌, List, length, Some, None, Ok, Err, Result}
use Rattle.routing.specs.declared.refusal.Refusal.{Refusal}
use Rattle.routing.specs.declared.refusal.Refusal.TheVariants.{RowFails}
use Rattle.routing.specs.Net.{Net, Pos}
use Rattle.routing.specs.Rules.{Means}
use Rattle.tables.specs.declared.row.Row.{Row}
use Rattle.tables.specs.Tables.{rule_at}
use Rattle.judging.specs.declared.shown.RouteStep.{RouteStep}
use Rattle.judging.specs.declared.shown.Shown.{Shown}
use Rattle.judging.specs.Chosen.{chosen}
use Rattle.judging.specs.Queries.{route_refusal}
use Rattle.judging.specs.Shown.{Trail, Shows}
use Rattle.judging.specs.Steps.{Written}

-- The chosen route is written, is a trail from x, and shows the rule of row r.
pub record RouteShown (N : Net) (rows : List Row) (r : ℕ) (x : Pos) (before after : List RouteStep) (s : Shown) : Type 0 where
  pub written : Written (chosen N (rule_at rows r) x) before after s
  pub trail : Trail N x (chosen N (rule_at rows r) x).positions
  pub shows : Shows N (rule_at rows r) x (chosen N (rule_at rows r) x).positions s.ending

-- A route is shown where the question is not refused and the row's rule is true at x. Otherwise the steps list is as before,
-- and so is the work space where the question is refused.
abbrev pub RouteAnswer : {S : Type 0} → Net → List Row → ℕ → Pos → List S → List S → List S → List S → List RouteStep → List RouteStep
    → Result Shown Refusal → Type 0
RouteAnswer N rows r x main main' spare spare' steps steps' (Ok s) =
    (route_refusal N rows r x (length main) (length spare) (length steps) ≡ None) × RouteShown N rows r x steps steps' s
RouteAnswer N rows r x main main' spare spare' steps steps' (Err e) =
    (steps' ≡ steps)
    × (((route_refusal N rows r x (length main) (length spare) (length steps) ≡ Some e) × (main' ≡ main) × (spare' ≡ spare))
    ⊎ ((route_refusal N rows r x (length main) (length spare) (length steps) ≡ None) × (e ≡ RowFails) × (¬ (Means N (rule_at rows r) x))))

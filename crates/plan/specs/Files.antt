-- What a plan that was read from its file means.
use Rattle.std.specs.Prelude.{◌≡◌, ℕ, true, cond, List, length, is_some, Some, None, Ok, Err, Option, Result, nat_lt}
use Rattle.std.specs.List.{slice_get}
use Rattle.routing.specs.Net.{Net}
use Rattle.routing.specs.Rules.{Rule}
use Rattle.tables.specs.Tables.{accepted}
use Rattle.rule_text.specs.declared.table.Table.{Table}
use Rattle.rule_text.specs.Reading.{Reading as TextReading, StandsFor, table_rows}
use Rattle.rule_text.specs.Rows.{rows_of}
use Rattle.plan.specs.declared.fault.PlanFault.{PlanFault}
use Rattle.plan.specs.declared.file.PlanFile.{PlanFile}
use Rattle.plan.specs.Format.{Plan}
use Rattle.plan.specs.Contents.{plan_of, plan_net, rule_count, text_at}
use Rattle.plan.specs.Reading.{PlanRead}
use Rattle.plan.specs.Shape.{shape_fault}

-- The bytes that are lent, and the plan that their fields hold.
abbrev pub file_bytes : PlanFile → List ℕ
file_bytes f = f.file.counted.bytes.now

abbrev pub file_plan : PlanFile → Plan
file_plan f = plan_of (file_bytes f)

-- The network of that plan.
abbrev pub file_meaning : PlanFile → Net
file_meaning f = plan_net (file_plan f)

-- What opening a file comes to: the plan whose file it is, or the refusal.
abbrev pub OpenedPlan : List ℕ → Result PlanFile PlanFault → Type 0
OpenedPlan file (Ok f) = (file_bytes f ≡ file) × PlanRead file (Ok (file_plan f))
OpenedPlan file (Err e) = PlanRead file (Err e)

-- The text of rule i of a file with no fault of its shape.
abbrev pub shaped_text : List ℕ → ℕ → Option (List ℕ)
shaped_text file i =
    cond (is_some (shape_fault (length file) file)) None (cond (nat_lt i (rule_count file)) (Some (text_at file i)) None)

-- The table of rule i of a plan: that of the rule which its text is, and it means what the rule means.
pub record TableOf (p : Plan) (i : ℕ) (t : Table) : Type 0 where
  pub text : List ℕ
  pub listed : slice_get p.texts i ≡ Some text
  pub rule : Rule
  pub reads : TextReading 6 text (Ok rule)
  pub rows : table_rows t ≡ rows_of 0 rule
  pub means : StandsFor (table_rows t) rule
  pub accepted : accepted 6 (table_rows t) ≡ true

-- Reports as texts, and what is added to them.
use Rattle.std.specs.Prelude.{◌≡◌, ℕ, ◌+◌, ◌<◌, ◌≤◌, ◌⊎◌, ◌↔◌, List, ◌++◌, length, Some, None, Err, Option}
use Rattle.plan.specs.declared.fault.PlanFault.{PlanFault}
use Rattle.plan.specs.Reading.{LeftOpen, PlanRead}
use Rattle.report.specs.declared.outcome.Report.{Report}
use Rattle.report.specs.Lines.{Reported}

-- The bytes to print.
abbrev pub report_text : Report → List ℕ
report_text r = r.bytes.items

-- The bytes are added behind the text.
pub record Added (before : Report) (bytes : List ℕ) (after : Report) : Type 0 where
  pub text : report_text after ≡ report_text before ++ bytes
  pub fault : after.fault ≡ before.fault

-- They are, if there is room for them.
pub record Adds (before : Report) (bytes : List ℕ) (after : Report) : Type 0 where
  pub added : length (report_text before) + length bytes ≤ 512 → Added before bytes after

-- The report of a file: what is printed of it, and the fault that it is refused with, exactly where it is refused.
pub record ReportOf (file : List ℕ) (r : Report) : Type 0 where
  pub reported : Reported file (report_text r)
  pub fault : (e : PlanFault) → (r.fault ≡ Some e) ↔ PlanRead file (Err e)

-- The report of every file that begins with the front and has so many more bytes; absent exactly where there are more
-- and the front does not tell what the file is refused for.
abbrev pub FrontReport : List ℕ → ℕ → Option Report → Type 0
FrontReport front behind None = (0 < behind) × LeftOpen (length front) behind
FrontReport front behind (Some r) =
    ((behind ≡ 0) ⊎ (¬ (LeftOpen (length front) behind))) × ((rest : List ℕ) → length rest ≡ behind → ReportOf (front ++ rest) r)

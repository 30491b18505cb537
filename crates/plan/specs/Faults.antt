-- Refusals by number.
use Rattle.std.specs.Prelude.{ℕ}
use Rattle.rule_text.specs.Faults.{fault_number}
use Rattle.plan.specs.declared.fault.FileFault.{FileFault}
use Rattle.plan.specs.declared.fault.FileFaultKind.{FileFaultKind}
use Rattle.plan.specs.declared.fault.FileFaultKind.TheVariants.{BadContents, WrongLength, NoPlace, OverLimit}
use Rattle.plan.specs.declared.fault.PlanFault.{PlanFault}
use Rattle.plan.specs.declared.fault.PlanFault.TheVariants.{InFile, InText}
use Rattle.plan.specs.declared.fault.WriteFault.{WriteFault}
use Rattle.plan.specs.declared.fault.WriteFault.TheVariants.{BadPlan, TooShort}

-- The number of each refusal of a file.
abbrev pub file_fault_number : FileFaultKind → ℕ
file_fault_number BadContents = 6
file_fault_number WrongLength = 7
file_fault_number NoPlace = 8
file_fault_number OverLimit = 9

abbrev pub file_fault : FileFaultKind → ℕ → FileFault
file_fault kind byte = record { kind = kind; byte = byte }

-- The number of the refusal of a plan: of the file, or of a rule's text.
abbrev pub plan_fault_number : PlanFault → ℕ
plan_fault_number (InFile f) = file_fault_number f.kind
plan_fault_number (InText i f) = fault_number f.kind

-- The number of the refusal to write a plan; 14 where the output is too short.
abbrev pub write_fault_number : WriteFault → ℕ
write_fault_number (BadPlan f) = plan_fault_number f
write_fault_number TooShort = 14

-- Refusals by number.
use Rattle.std.specs.Prelude.{ℕ}
use Rattle.rule_text.specs.declared.fault.Fault.{Fault}
use Rattle.rule_text.specs.declared.fault.FaultKind.{FaultKind}
use Rattle.rule_text.specs.declared.fault.FaultKind.TheVariants.{UnknownWord, CannotFollow, OutOfRange, TooDeep, TooManyRows, TooLong}

-- The number of each refusal.
abbrev pub fault_number : FaultKind → ℕ
fault_number UnknownWord = 1
fault_number CannotFollow = 2
fault_number OutOfRange = 3
fault_number TooDeep = 4
fault_number TooManyRows = 5
fault_number TooLong = 9

abbrev pub fault : FaultKind → ℕ → Fault
fault kind byte = record { kind = kind; byte = byte }

-- Why a judgement of lent lists is refused: for the lists themselves, else as any judgement.
use Rattle.std.specs.Prelude.{ℕ, Bool, List, Some, None, Option}
use Rattle.routing.specs.declared.binding.Binding.{Binding}
use Rattle.routing.specs.declared.refusal.Refusal.{Refusal}
use Rattle.routing.specs.Bindings.{net_of}
use Rattle.routing.specs.Refusals.{opening}
use Rattle.tables.specs.declared.row.Row.{Row}
use Rattle.judging.specs.Judged.{judge_refusal}

-- The first refusal, if it is one, else the second.
abbrev pub first_refusal : Option Refusal → Option Refusal → Option Refusal
first_refusal None e = e
first_refusal (Some r) e = Some r

abbrev pub site_refusal : {S : Type 0} → ℕ → (S → ℕ → Bool) → List ℕ → List (Binding S) → List Row → ℕ → ℕ → Option Refusal
site_refusal K holds marks records rows main spare = first_refusal (opening marks records) (judge_refusal (net_of K holds marks records) rows main spare)

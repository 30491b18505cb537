-- What holds of the format.
use Rattle.std.specs.Prelude.{◌≡◌, ℕ, ◌^◌, ◌<◌, List, Ok, Result}
use Rattle.plan.specs.declared.fault.PlanFault.{PlanFault}
use Rattle.plan.specs.Format.{Plan, encoded}
use Rattle.plan.specs.Contents.{plan_of}
use Rattle.plan.specs.Reading.{Each, PlanRead, Sound}

-- Every string of bytes is the file of a plan or has a refusal ..
abbrev pub Decided : Type 0
Decided = (file : List ℕ) → Each (λ b. b < 2 ^ 8) file → (r : Result Plan PlanFault) × PlanRead file r

-- .. and not both, nor two of either.
abbrev pub OneAnswer : Type 0
OneAnswer = (file : List ℕ) (r q : Result Plan PlanFault) → PlanRead file r → PlanRead file q → r ≡ q

-- Reading what was written gives the plan: the fields of its file hold it.
abbrev pub ReadBack : Type 0
ReadBack = (p : Plan) → Sound p → plan_of (encoded p) ≡ p

-- Writing what was read gives the file.
abbrev pub WriteBack : Type 0
WriteBack = (file : List ℕ) (p : Plan) → PlanRead file (Ok p) → (p ≡ plan_of file) × (encoded (plan_of file) ≡ file)

-- Two plans with one file are one plan.
abbrev pub OneFile : Type 0
OneFile = (p q : Plan) → Sound p → Sound q → encoded p ≡ encoded q → p ≡ q

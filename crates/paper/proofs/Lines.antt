-- What a line shows that does not refuse.
use Rattle.std.proofs.Common.{◌≡◌, ℕ, Bool, true, false, Option, Some, None, refl, arith}
use Rattle.std.specs.Option.{option_or}
use Rattle.routing.specs.declared.refusal.Refusal.{Refusal}
use Rattle.paper.specs.Refused.{unless}

-- Of two parts of the line neither refuses.
pub both_none : (a b : Option Refusal) → option_or a b ≡ None → (a ≡ None) × (b ≡ None)
both_none None b e = (refl, e)
both_none (Some r) b e = cc

-- A test that does not refuse is met.
pub met : (b : Bool) (r : Refusal) → unless b r ≡ None → b ≡ true
met true r e = refl
met false r e = cc

-- A line does not both refuse and let pass.
pub not_both : {X : Type 0} (a : Option Refusal) (r : Refusal) → a ≡ None → a ≡ Some r → X
not_both a r e f = let z : ◌≡◌ {A = ℕ} 0 1 = cc in absurd (omega arith)

-- The worked cases: what rules mean at positions of the trial networks.
use Rattle.std.specs.Prelude.{◌≡◌, ℕ, ◌≤◌, [], ◌∷◌}
use Rattle.routing.specs.Net.{Net, Pos}
use Rattle.routing.specs.Routes.{Route, Until}
use Rattle.routing.specs.Rules.{Rule, mark, non, ex, eu, eg, ef, ax, ag, af, Means}
use Rattle.judging.specs.Chosen.{chosen}
use Rattle.judging.specs.declared.shown.Ending.TheVariants.{Returns}
use Rattle.samples.specs.Networks.{P, L, at}

abbrev pub m0 : Rule
m0 = mark 0

abbrev pub m1 : Rule
m1 = mark 1

-- A route with m1 after so many hops.
abbrev pub ReachesIn : Net → Pos → ℕ → Type 0
ReachesIn N x n = (r : Route N x) × (u : Until r (λ _. Unit {0}) (Means N m1)) × (u.hops ≡ n)

pub record WorkedCases : Type 0 where
  -- P at place 0 with condition 0 off: no step leads on
  pub p_ax : Means P (ax m1) (at 0 0)
  pub p_eg : Means P (eg (non m1)) (at 0 0)
  pub p_ex : ¬ (Means P (ex m1) (at 0 0))
  pub p_ef : ¬ (Means P (ef m1) (at 0 0))
  pub p_af : ¬ (Means P (af m1) (at 0 0))
  -- .. and with it on: each step leads to mark 1
  pub p_ex_on : Means P (ex m1) (at 0 1)
  pub p_af_on : Means P (af m1) (at 0 1)
  -- L at place 0 with condition 0 off: mark 1 comes in two hops and not in fewer
  pub l_two_hops : ReachesIn L (at 0 0) 2
  pub l_no_fewer : (n : ℕ) → ReachesIn L (at 0 0) n → 2 ≤ n
  pub l_ag_ef : Means L (ag (ef m1)) (at 0 0)
  pub l_af : ¬ (Means L (af m1) (at 0 0))
  pub l_eu : ¬ (Means L (eu m0 m1) (at 0 0))
  -- the route that breaks AF m1, and is shown: to place 1, and back
  pub l_af_route : chosen L (eg (non m1)) (at 0 0) ≡ record { positions = at 0 0 ∷ at 1 0 ∷ []; ending = Returns 0 }

-- Positions as the records of a steps list.
use Rattle.std.specs.Prelude.{◌≡◌, ◌+◌, ◌≤◌, Bool, List, [], map, length, take, drop, Some, None, Option}
use Rattle.routing.specs.Net.{Net, Pos, places}
use Rattle.tables.specs.declared.row.Operation.{Operation}
use Rattle.tables.specs.declared.row.Operation.TheVariants.{Yes, Mark, Condition, Not, And, Or, Next, Until, Always}
use Rattle.judging.specs.declared.shown.Ending.TheVariants.{Rests}
use Rattle.judging.specs.declared.shown.RouteStep.{RouteStep}
use Rattle.judging.specs.declared.shown.Shown.{Shown}
use Rattle.judging.specs.Chosen.{Chosen, next_in, chosen_next, chosen_until, walk_always}

abbrev pub as_step : Pos → RouteStep
as_step x = record { place = x.place; setting = x.setting }

abbrev pub as_pos : RouteStep → Pos
as_pos s = record { place = s.place; setting = s.setting }

abbrev pub as_steps : List Pos → List RouteStep
as_steps ps = map as_step ps

abbrev pub as_next : Option Pos → Option RouteStep
as_next None = None
as_next (Some x) = Some (as_step x)

-- The list has a record for each place and one more, which is enough for any route that is shown.
abbrev pub HasSteps : Net → List RouteStep → Type 0
HasSteps N steps = places N + 1 ≤ length steps

-- The route that is chosen stands at the front of the list, the rest of which is as before; the answer counts its positions and has its ending.
pub record Written (c : Chosen) (before after : List RouteStep) (s : Shown) : Type 0 where
  pub counted : s.count ≡ length c.positions
  pub ended : s.ending ≡ c.ending
  pub front : take s.count after ≡ as_steps c.positions
  pub rest : drop s.count after ≡ drop s.count before

-- The chosen route of a row, where p and q are the tests of its operands and own is its own.
abbrev pub chosen_by : Net → Operation → (Pos → Bool) → (Pos → Bool) → (Pos → Bool) → Pos → Chosen
chosen_by N (Next i) p q own x = chosen_next x (next_in N p x)
chosen_by N (Until i j) p q own x = chosen_until N p q x
chosen_by N (Always i) p q own x = walk_always N own (places N + 1) [] x
chosen_by N Yes p q own x = record { positions = []; ending = Rests }
chosen_by N (Mark k) p q own x = record { positions = []; ending = Rests }
chosen_by N (Condition k) p q own x = record { positions = []; ending = Rests }
chosen_by N (Not i) p q own x = record { positions = []; ending = Rests }
chosen_by N (And i j) p q own x = record { positions = []; ending = Rests }
chosen_by N (Or i j) p q own x = record { positions = []; ending = Rests }

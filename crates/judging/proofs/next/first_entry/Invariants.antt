use Rattle.std.proofs.Common.{◌≡◌, ℕ, drop, Option}
use Rattle.routing.specs.Net.{Pos, places}
use Rattle.judging.specs.Notes.{first_link}
use Rattle.judging.specs.Callbacks.{Gives}
use Rattle.judging.specs.Steps.{as_pos}
use Rattle.judging.proofs.next.first_entry.Given as goal

abbrev pub invariant-loop-i : goal.invariant-loop-i
invariant-loop-i g l =
    let N = g.N.Network.meaning l.net in
    (enter : ℕ → Option Pos) → Gives (places N) (goal.F-post g l.entry) enter
    → first_link enter (as_pos l.at) N.bindings ≡ first_link enter (as_pos l.at) (drop l.i N.bindings)

-- Own bindings with their sets, as a board keeps them, and what a change makes of their list.
use Rattle.std.specs.Prelude.{ℕ, zero, suc, List, [], ◌∷◌, map, Option, None, Some}
use Rattle.conditions.specs.declared.set.ConditionSet.{Ghosts}
use Rattle.paper.specs.declared.own.OwnBinding.{OwnBinding}
use Rattle.board.specs.declared.when.When.{When}
use Rattle.board.specs.declared.own.KeptBinding.{KeptBinding}

-- The own binding that is kept.
abbrev pub binding_of : {S : Type 0} {s : Ghosts S} → KeptBinding S s → OwnBinding
binding_of e = record { from = e.from; to = e.to; on = e.when.on; off = e.when.off }

abbrev pub bindings_of : {S : Type 0} {s : Ghosts S} → List (KeptBinding S s) → List OwnBinding
bindings_of es = map binding_of es

-- The own binding of an entry, if there is one.
abbrev pub kept_binding : {S : Type 0} {s : Ghosts S} → Option (KeptBinding S s) → Option OwnBinding
kept_binding None = None
kept_binding (Some e) = Some (binding_of e)

-- The list with other numbers for when entry i forwards.
abbrev pub with_when : {S : Type 0} {s : Ghosts S} → ℕ → When S s → List (KeptBinding S s) → List (KeptBinding S s)
with_when i w [] = []
with_when zero w (e ∷ es) = record { from = e.from; to = e.to; when = w } ∷ es
with_when (suc i) w (e ∷ es) = e ∷ with_when i w es

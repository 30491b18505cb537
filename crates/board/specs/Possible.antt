-- What a board keeps to, whatever calls come: ends are places, changes can be made, rules are accepted. Cited by its invariants, inside board alone.
use Rattle.std.specs.Prelude.{ℕ, Bool, true, ◌&&◌, List, [], ◌∷◌, length, Option, None, Some, nat_lt}
use Rattle.conditions.specs.declared.set.ConditionSet.{Ghosts}
use Rattle.tables.specs.declared.row.Row.{Row}
use Rattle.tables.specs.Tables.{accepted}
use Rattle.paper.specs.declared.own.OwnBinding.{OwnBinding}
use Rattle.paper.specs.declared.change.Change.{Change}
use Rattle.paper.specs.declared.change.Change.TheVariants.{Bind, Unbind, Recondition}
use Rattle.board.specs.declared.prepared.Prepared.{Prepared}
use Rattle.board.specs.declared.prepared.Prepared.TheVariants.{Adds, Removes, Forwards}
use Rattle.board.specs.Entries.{binding_of}

-- Both ends of each binding are among n places.
abbrev pub ends_inside : ℕ → List OwnBinding → Bool
ends_inside n [] = true
ends_inside n (b ∷ bs) = (nat_lt b.from n && nat_lt b.to n) && ends_inside n bs

-- The change names a binding that there is, or adds one for which there is room ..
abbrev pub can_make_in : Change → List OwnBinding → Bool
can_make_in (Bind b) own = nat_lt (length own) 128
can_make_in (Unbind i) own = nat_lt i (length own)
can_make_in (Recondition i on off) own = nat_lt i (length own)

-- .. and what it adds joins two of n places.
abbrev pub joins : ℕ → Change → Bool
joins n (Bind b) = nat_lt b.from n && nat_lt b.to n
joins n (Unbind i) = true
joins n (Recondition i on off) = true

abbrev pub can_make : ℕ → Change → List OwnBinding → Bool
can_make n change own = joins n change && can_make_in change own

-- The change that was prepared.
abbrev pub change_of : {S : Type 0} {s : Ghosts S} → Prepared S s → Change
change_of (Adds e) = Bind (binding_of e)
change_of (Removes i) = Unbind i
change_of (Forwards i w) = Recondition i w.on w.off

abbrev pub change_in : {S : Type 0} {s : Ghosts S} → Option (Prepared S s) → Option Change
change_in None = None
change_in (Some p) = Some (change_of p)

-- So can the open change, if there is one.
abbrev pub can_make_open : {S : Type 0} {s : Ghosts S} → ℕ → Option (Prepared S s) → List OwnBinding → Bool
can_make_open n None own = true
can_make_open n (Some p) own = can_make n (change_of p) own

-- Each table is accepted over K conditions.
abbrev pub all_accepted : ℕ → List (List Row) → Bool
all_accepted K [] = true
all_accepted K (t ∷ ts) = accepted K t && all_accepted K ts

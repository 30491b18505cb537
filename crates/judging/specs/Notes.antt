-- Notes on the way to E[p U q]: for each place the round in which a position of it was first in the set, and the setting that was picked then.
use Rattle.std.specs.Prelude.{◌≡◌, ℕ, zero, suc, ◌<◌, Bool, false, cond, ◌&&◌, List, [], ◌∷◌, is_some, Some, None, Option, ◌==◌, nat_le, slice_index_or}
use Rattle.routing.specs.Net.{Link, Net, Pos, places}
use Rattle.judging.specs.declared.notes.Note.{Note}
use Rattle.judging.specs.Chosen.{pos, at_place, entering, or_next, goes_on}

-- The note of a place, if it has one.
abbrev pub note_of : List (Option Note) → ℕ → Option Note
note_of notes t = slice_index_or notes t None

-- What is noted of a place in round r, where it has an entry: the first note stays.
abbrev pub noted_at : Option Note → Option Pos → ℕ → Option Note
noted_at (Some n) entry r = Some n
noted_at None None r = None
noted_at None (Some y) r = Some (record { round = r; setting = y.setting })

-- The place was noted by round j.
abbrev pub noted_by : Option Note → ℕ → Bool
noted_by None j = false
noted_by (Some n) j = nat_le n.round j

-- The first of the bindings that leads from x to a place with an entry, and that entry.
unfoldable pub first_link : (ℕ → Option Pos) → Pos → List Link → Option Pos
first_link enter x [] = None
first_link enter x (b ∷ bs) = or_next (cond (b.from == x.place && b.forwards x.setting) (enter b.to) None) (first_link enter x bs)

-- The setting that was noted, where it came by round d.
abbrev pub setting_by : ℕ → Option Note → Option ℕ
setting_by d None = None
setting_by d (Some n) = cond (nat_le n.round d) (Some n.setting) None

-- The noted entry of place t, where it came by round d.
abbrev pub noted_entry : List (Option Note) → ℕ → ℕ → Option Pos
noted_entry notes d t = at_place t (setting_by d (note_of notes t))

abbrev pub noted_next : Net → List (Option Note) → ℕ → Pos → Option Pos
noted_next N notes d x = first_link (noted_entry notes d) x N.bindings

-- The notes of the rounds before i of the sets T(0), T(1), ..
pub record Noted (N : Net) (T : ℕ → Pos → Bool) (i : ℕ) (notes : List (Option Note)) : Type 0 where
  pub by_then : (t j : ℕ) → t < places N → j < i → is_some (entering N (T j) t) ≡ noted_by (note_of notes t) j
  pub entry : (t : ℕ) (n : Note) → t < places N → note_of notes t ≡ Some n → (n.round < i) × (entering N (T n.round) t ≡ Some (pos t n.setting))

-- The way down in d hops, each to a noted entry that came by an earlier round.
unfoldable pub walk_noted : Net → List (Option Note) → ℕ → Pos → List Pos
walk_noted N notes zero x = x ∷ []
walk_noted N notes (suc d) x = x ∷ goes_on (noted_next N notes d x) (walk_noted N notes d)

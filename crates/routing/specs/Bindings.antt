-- Binding records, what they mean, and what every network keeps to.
use Rattle.std.specs.Prelude.{◌≡◌, ℕ, ◌<◌, ◌≤◌, Bool, List, map, length, Some}
use Rattle.std.specs.List.{slice_get}
use Rattle.routing.specs.declared.binding.Binding.{Binding}
use Rattle.routing.specs.Net.{Link, Net, places}

-- What a binding record means, where `holds` says which settings a set holds.
abbrev pub linked : {S : Type 0} → (S → ℕ → Bool) → Binding S → Link
linked holds b = record { from = b.from; to = b.to; forwards = holds b.set }

-- The network of a list of marks and a list of binding records, over K conditions.
abbrev pub net_of : {S : Type 0} → ℕ → (S → ℕ → Bool) → List ℕ → List (Binding S) → Net
net_of K holds marks records = record { conditions = K; marks = marks; bindings = map (linked holds) records }

-- Both ends of the binding are places, where there are n of them.
abbrev pub Inside : ℕ → Link → Type 0
Inside n b = (b.from < n) × (b.to < n)

-- What a network keeps to: at most 256 places and 4096 bindings, and every end of a binding is a place.
pub record Fits (N : Net) : Type 0 where
  pub few_places : places N ≤ 256
  pub few_bindings : length N.bindings ≤ 4096
  pub ends : (i : ℕ) (b : Link) → slice_get N.bindings i ≡ Some b → Inside (places N) b

-- The board on paper, and the network that it means.
use Rattle.std.specs.Prelude.{ℕ, ◌+◌, List, [], ◌++◌, map, length, Option, None, Some}
use Rattle.routing.specs.Net.{Link, Net, places}
use Rattle.tables.specs.declared.row.Row.{Row}
use Rattle.paper.specs.declared.own.OwnBinding.{OwnBinding}
use Rattle.paper.specs.declared.change.Change.{Change}
use Rattle.paper.specs.Own.{own_link, changed}

-- What a board is opened with: its number, the marks of its own places, and the far network.
pub record Opening : Type 0 where
  pub number : ℕ
  pub marks : List ℕ
  pub far : Net

-- What calls make of it: the own bindings, the adopted rules, each a table, the change of the open proposal, if one is open,
-- and the last serial that was handed out.
pub record Paper : Type 0 where
  pub own : List OwnBinding
  pub rules : List (List Row)
  pub pending : Option Change
  pub last : ℕ

-- At first there are none, and the last serial is 0.
abbrev pub opened : Paper
opened = record { own = []; rules = []; pending = None; last = 0 }

-- A far binding behind n own places: its ends are moved past them.
abbrev pub moved : ℕ → Link → Link
moved n b = record { from = n + b.from; to = n + b.to; forwards = b.forwards }

-- The network of own bindings in front of the far network: own places, then far ones; own bindings, then far ones.
abbrev pub standing : Opening → List OwnBinding → Net
standing o own = record {
  conditions = o.far.conditions;
  marks = o.marks ++ o.far.marks;
  bindings = map (own_link o.far.conditions) own ++ map (moved (length o.marks)) o.far.bindings;
}

-- All places, own and far.
abbrev pub all_places : Opening → ℕ
all_places o = length o.marks + places o.far

-- The own bindings with the open change, if there is one.
abbrev pub own_with : Option Change → List OwnBinding → List OwnBinding
own_with None own = own
own_with (Some change) own = changed change own

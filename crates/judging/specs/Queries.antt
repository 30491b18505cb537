-- When asking for a route is refused.
use Rattle.std.specs.Prelude.{ℕ, ◌+◌, ◌*◌, Bool, cond, ◌&&◌, List, length, Some, None, Option, nat_le, nat_lt, slice_index_or}
use Rattle.std.specs.Option.{option_or}
use Rattle.routing.specs.declared.refusal.Refusal.{Refusal}
use Rattle.routing.specs.declared.refusal.Refusal.TheVariants.{BadTable, BadQuery, TooShort}
use Rattle.routing.specs.Net.{Net, Pos, places, settings}
use Rattle.tables.specs.declared.row.Row.{Row}
use Rattle.tables.specs.Tables.{accepted, no_row}

-- The asked row is a row of operation 6, 7 or 8, and the position is one of the network.
abbrev pub query_fits : Net → List Row → ℕ → Pos → Bool
query_fits N rows r x =
    nat_lt r (length rows)
    && ((nat_le 6 (slice_index_or rows r no_row).operation && nat_le (slice_index_or rows r no_row).operation 8)
    && (nat_lt x.place (places N) && nat_lt x.setting (settings N)))

-- There is a work space as for judging, and a steps list of at least places + 1.
abbrev pub route_room : Net → List Row → ℕ → ℕ → ℕ → Bool
route_room N rows main spare steps = nat_le (length rows * places N) main && (nat_le (2 * places N) spare && nat_le (places N + 1) steps)

-- Why the question is refused: the table, else the question itself.
abbrev pub query_refusal : Net → List Row → ℕ → Pos → Option Refusal
query_refusal N rows r x = cond (accepted N.conditions rows) (cond (query_fits N rows r x) None (Some BadQuery)) (Some BadTable)

-- Why it is refused without judging: the table, else the question, else the room.
abbrev pub route_refusal : Net → List Row → ℕ → Pos → ℕ → ℕ → ℕ → Option Refusal
route_refusal N rows r x main spare steps =
    option_or (query_refusal N rows r x) (cond (route_room N rows main spare steps) None (Some TooShort))

-- When a call is refused without judging. Each line has its tests in their order; the first that fails decides.
use Rattle.std.specs.Prelude.{ℕ, ◌+◌, ◌*◌, ◌^◌, Bool, true, not, cond, ◌&&◌, ◌||◌, ◌==◌, List, [], ◌∷◌, length, Option, Some, None, is_some, nat_lt, nat_le, max}
use Rattle.std.specs.Option.{option_or}
use Rattle.routing.specs.declared.refusal.Refusal.{Refusal}
use Rattle.routing.specs.declared.refusal.Refusal.TheVariants.{NoPlace, OverLimit, BadTable, NoOwnEnd, NoBinding, TooShort, NoCondition, ProposalOpen, BindingsFull, RulesFull, WrongTicket, NoSerial}
use Rattle.tables.specs.declared.row.Row.{Row}
use Rattle.tables.specs.Tables.{accepted}
use Rattle.paper.specs.declared.change.Change.{Change}
use Rattle.paper.specs.declared.change.Change.TheVariants.{Bind, Unbind, Recondition}
use Rattle.paper.specs.declared.numbers.Numbers.{Numbers}
use Rattle.paper.specs.declared.room.Room.{Room}
use Rattle.paper.specs.Calls.{Call, adopt, propose, revise, admit, withdraw, ask_open}
use Rattle.paper.specs.Paper.{Opening, Paper, all_places}

-- A test of a line: it refuses where it is not met.
abbrev pub unless : Bool → Refusal → Option Refusal
unless met r = cond met None (Some r)

-- Why an opening is refused: over 64 own places, over 256 places in all, or over 3968 far bindings.
abbrev pub opening_refusal : Opening → Option Refusal
opening_refusal o =
    unless (nat_le (length o.marks) 64 && (nat_le (all_places o) 256 && nat_le (length o.far.bindings) 3968)) OverLimit

-- The number names no condition but those below K.
abbrev pub names_below : ℕ → ℕ → Bool
names_below K n = nat_lt n (2 ^ K)

-- The test of the two numbers of an own binding.
abbrev pub numbers_refusal : Opening → ℕ → ℕ → Option Refusal
numbers_refusal o on off = unless (names_below o.far.conditions on && names_below o.far.conditions off) NoCondition

-- The tests of a change by itself, where so many own bindings stand.
abbrev pub change_refusal : Opening → ℕ → Change → Option Refusal
change_refusal o own (Bind b) =
    option_or (unless (nat_lt b.from (all_places o) && nat_lt b.to (all_places o)) NoPlace)
    (option_or (unless (nat_lt b.from (length o.marks) || nat_lt b.to (length o.marks)) NoOwnEnd) (numbers_refusal o b.on b.off))
change_refusal o own (Unbind i) = unless (nat_lt i own) NoBinding
change_refusal o own (Recondition i on off) = option_or (unless (nat_lt i own) NoBinding) (numbers_refusal o on off)

-- There is room for the change, where so many own bindings stand: to bind, fewer than 128.
abbrev pub has_room : ℕ → Change → Bool
has_room own (Bind b) = nat_lt own 128
has_room own (Unbind i) = true
has_room own (Recondition i on off) = true

-- A proposal is open.
abbrev pub is_open : Paper → Bool
is_open p = is_some p.pending

-- None is.
abbrev pub closed : Paper → Bool
closed p = not (is_open p)

-- The numbers are those of the open proposal's ticket.
abbrev pub fits_ticket : Opening → Paper → Numbers → Bool
fits_ticket o p t = t.board == o.number && (t.serial == p.last && is_open p)

-- The lists are long enough to judge tables of so many rows in, and to show a route.
abbrev pub enough : Opening → ℕ → Room → Bool
enough o rows room = nat_le (rows * all_places o) room.main && (nat_le (2 * all_places o) room.spare && nat_le (all_places o + 1) room.steps)

-- The rows of the largest table; 0 where there is none.
abbrev pub most_rows : List (List Row) → ℕ
most_rows [] = 0
most_rows (t ∷ ts) = max (length t) (most_rows ts)

-- Why a call is refused without judging.
abbrev pub refusal : Opening → Paper → Call → Option Refusal
refusal o p (adopt rows room) =
    option_or (unless (accepted o.far.conditions rows) BadTable)
    (option_or (unless (enough o (length rows) room) TooShort)
    (option_or (unless (closed p) ProposalOpen) (unless (nat_lt (length p.rules) 8) RulesFull)))
refusal o p (propose change) =
    option_or (change_refusal o (length p.own) change)
    (option_or (unless (closed p) ProposalOpen)
    (option_or (unless (has_room (length p.own) change) BindingsFull) (unless (nat_lt p.last 4294967295) NoSerial)))
refusal o p (revise t change) =
    option_or (change_refusal o (length p.own) change)
    (option_or (unless (has_room (length p.own) change) BindingsFull) (unless (fits_ticket o p t) WrongTicket))
refusal o p (admit t room) = option_or (unless (enough o (most_rows p.rules) room) TooShort) (unless (fits_ticket o p t) WrongTicket)
refusal o p (withdraw t) = unless (fits_ticket o p t) WrongTicket
refusal o p ask_open = None

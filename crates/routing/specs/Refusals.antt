-- The refusals by their numbers, and when a site table is refused.
use Rattle.std.specs.Prelude.{ℕ, Bool, true, cond, ◌&&◌, ◌||◌, List, [], ◌∷◌, length, Some, None, Option, nat_lt}
use Rattle.routing.specs.declared.binding.Binding.{Binding}
use Rattle.routing.specs.declared.refusal.Refusal.{Refusal}
use Rattle.routing.specs.declared.refusal.Refusal.TheVariants.{NoPlace, OverLimit, BadTable, BadQuery, NoOwnEnd, NoBinding, TooShort, NoCondition, ProposalOpen, BindingsFull, RulesFull, WrongTicket, NoSerial, RowFails}

-- The number of each refusal.
abbrev pub numbered : Refusal → ℕ
numbered NoPlace = 8
numbered OverLimit = 9
numbered BadTable = 10
numbered BadQuery = 11
numbered NoOwnEnd = 12
numbered NoBinding = 13
numbered TooShort = 14
numbered NoCondition = 15
numbered ProposalOpen = 20
numbered BindingsFull = 21
numbered RulesFull = 22
numbered WrongTicket = 23
numbered NoSerial = 24
numbered RowFails = 26

-- Each end of each binding is one of n places.
abbrev pub all_inside : {S : Type 0} → ℕ → List (Binding S) → Bool
all_inside n [] = true
all_inside n (b ∷ bs) = (nat_lt b.from n && nat_lt b.to n) && all_inside n bs

-- Why marks and binding records are refused: over 256 places or 4096 bindings, else a binding end that is no place.
abbrev pub opening : {S : Type 0} → List ℕ → List (Binding S) → Option Refusal
opening marks records =
    cond (nat_lt 256 (length marks) || nat_lt 4096 (length records)) (Some OverLimit)
    (cond (all_inside (length marks) records) None (Some NoPlace))

-- Sets of settings: what the clauses of `ConditionSet` cite.
use Rattle.std.specs.Prelude.{ℕ, ◌/◌, ◌%◌, ◌^◌, ◌<◌, Bool, ◌==◌}

-- Bit k of n is 1. Of a setting: condition k is on. Of the marks of a place: the place has mark k.
abbrev pub bit : ℕ → ℕ → Bool
bit n k = n / 2 ^ k % 2 == 1

-- Which of the numbers with P a set gives when it is asked for one: the least.
unfoldable pub Picked : (ℕ → Type 0) → ℕ → Type 0
Picked P m = P m × ((a : ℕ) → a < m → ¬ (P a))

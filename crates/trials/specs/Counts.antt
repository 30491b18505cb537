-- Counts that stop at the largest number.
use Rattle.std.specs.Prelude.{ℕ, Option, Some, None, ◌+◌, ◌-◌, ◌^◌, min, slice_index_or, slice_set}
use Rattle.trials.specs.declared.outcomes.Outcomes.{Outcomes}

-- The sum of two counts, or the largest number.
abbrev pub add_up : ℕ → ℕ → ℕ
add_up n m = min (n + m) (2 ^ 64 - 1)

-- How many cases were refused by k.
abbrev pub refused_by : Outcomes → ℕ → ℕ
refused_by t k = slice_index_or t.refused.counts k 0

-- The counts after a case that came out so.
abbrev pub counted : Outcomes → Option ℕ → Outcomes
counted t None = record t { accepted = add_up t.accepted 1 }
counted t (Some k) =
    record t { refused = record t.refused { counts = slice_set t.refused.counts k (add_up (refused_by t k) 1) } }

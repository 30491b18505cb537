use Rattle.std.proofs.Common.{◌≡◌, ℕ, ◌^◌, ◌&&◌, ltb}
use Rattle.paper.specs.Own.{all_as_asked}
use Rattle.board.proofs.when.When.new.Given as goal

-- The set holds the settings under which each condition before k is as asked.
abbrev pub invariant-loop-k : goal.invariant-loop-k
invariant-loop-k g l = (a : ℕ) → g.S.ConditionSet.holds l.set a ≡ (ltb a (2 ^ g.S.ConditionSet.count) && all_as_asked l.k l.on l.off a)

use Rattle.std.proofs.Common.{◌≡◌, ℕ, min, drop}
use Rattle.rule_text.specs.Words.{number_from}
use Rattle.rule_text.proofs.spell.value.Given as goal

-- the value is that of the digits so far, or 255
abbrev pub invariant-loop-digit : goal.invariant-loop-digit
invariant-loop-digit l =
    (n : ℕ) × (l.value ≡ min n 255) × (number_from n (drop l.digit-index l.digits) ≡ number_from 0 l.digits)

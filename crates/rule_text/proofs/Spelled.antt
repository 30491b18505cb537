-- Words with a number.
use Rattle.std.proofs.Common.{◌≡◌, ℕ, IsOkAnd, MatchResult, Err, Option, Result, arith}
use Rattle.std.proofs.lemmas.Grind.{common_steps}
use Rattle.std.specs.Option.{option_map}
use Rattle.rule_text.specs.declared.fault.FaultKind.{FaultKind}
use Rattle.rule_text.specs.declared.word.Word.{Word}
use Rattle.rule_text.specs.declared.word.Word.TheVariants.{Condition}
use Rattle.rule_text.specs.Words.{number_below, tested}

pub condition_tested : (K : ℕ) (o : Option ℕ) (n : Result ℕ FaultKind) (r : Result Word FaultKind) → n ≡ number_below K o
    → MatchResult n (λ k. IsOkAnd r (λ w. w ≡ Condition k)) (λ e. r ≡ Err e) → r ≡ tested K (option_map Condition o)
condition_tested K o n r e h = grind (arith, common_steps)

use Rattle.std.proofs.Common.{true, refl, ◌∙◌}
use Rattle.conditions.specs.Sets.{bit}
use Rattle.std.proofs.Math.Bool.{and-true}
use Rattle.conditions.proofs.Words.{table}
use Rattle.conditions.proofs.word.WordConditionSet.all.Goals as goal

pub returns : goal.returns
returns c = λ a. table 64 (bit 0xFFFF_FFFF_FFFF_FFFF) (λ _. true) refl a ∙ and-true _

use Rattle.std.proofs.Common.{◌≡◌, drop, arith}
use Rattle.std.proofs.lemmas.Grind.{common_steps}
use Rattle.std.specs.Option.{option_map}
use Rattle.rule_text.specs.declared.word.Word.TheVariants.{Condition}
use Rattle.rule_text.specs.Words.{number_of, word_of}
use Rattle.rule_text.proofs.Spelled.{condition_tested}
use Rattle.rule_text.proofs.spell.read_word.Goals as goal

pub returns-in-99 : goal.returns-in-99
returns-in-99 c =
    let word : word_of c.args.bytes.now ≡ option_map Condition (number_of (drop 1 c.args.bytes.now)) = grind (arith, common_steps) in
    rw word (condition_tested c.args.conditions _ _ _ (grind (arith, common_steps)) c.map-in-99.ensures.cases)

use Rattle.std.proofs.Common.{sym, arith}
use Rattle.std.proofs.lemmas.Grind.{common_steps}
use Rattle.rule_text.proofs.Pieces.{run_word, sign_word}
use Rattle.rule_text.proofs.split.word_end.Goals as goal

pub returns-then-is_ascii_alphanumeric-clause-word : goal.returns-then-is_ascii_alphanumeric-clause-word
returns-then-is_ascii_alphanumeric-clause-word c =
    run_word c.args.text.now c.args.at c.find_from.result (omega arith) (omega arith) (sym c.if-is_ascii_alphanumeric.ensures.value)
    (λ k l. grind (arith, common_steps, c.find_from.ensures.before k l)) (λ l. grind (arith, common_steps, c.find_from.ensures.found l))

pub returns-else-is_ascii_alphanumeric-clause-word : goal.returns-else-is_ascii_alphanumeric-clause-word
returns-else-is_ascii_alphanumeric-clause-word c =
    sign_word c.args.text.now c.args.at (omega arith) c.requires.no_space (sym c.if-is_ascii_alphanumeric.ensures.value)
